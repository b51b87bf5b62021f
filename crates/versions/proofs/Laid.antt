-- How long the parts of a moved table are, and the whole; how many plans have children. Lengths assume that the table has room for its
-- header and its plans.
use Prim.Native.Nat.{ℕ, zero, suc, ◌+◌, ◌*◌, ◌/◌, ◌%◌, ◌≤◌, ◌<◌}
use native.Mathlib.Omega.{arith}
use native.Mathlib.Decide.{ℕ_discrete}
use mathlib.Core.Path.{◌≡◌, refl, ap}
use mathlib.Core.Bool.{Bool, true, false, cond}
use mathlib.Core.List.{List, [], ◌∷◌, ◌++◌}
use lib.ListN.{length, length-append, length-take, length-drop}
use Rattle.rules.specs.Table.{plan_count, entry}
use Rattle.rules.specs.WaitFor.{is_leaf}
use Rattle.versions.specs.Versions.{header_as, plan_as, plans_as, nodes_before, node_as, nodes_as, in_version2, number_waited, in_version1}

module _ (t : List ℕ) where
  pub length_header : (v : ℕ) → 8 ≤ length t → length (header_as t v) ≡ 8
  length_header v room = simp (length-append, length-take, length-drop) (omega arith)

  pub length_plan : (p wait : ℕ) → 16 + 8 * p ≤ length t → length (plan_as t p wait) ≡ 8
  length_plan p wait room = simp (length-append, length-take, length-drop) (omega arith)

  pub length_plans : (wait : ℕ → ℕ) (k : ℕ) → 8 + 8 * k ≤ length t → length (plans_as t wait k) ≡ 8 * k
  unfolding plans_as
  length_plans wait zero room = refl
  length_plans wait (suc k) room =
      omega (
        arith,
        length-append (plans_as t wait k) (plan_as t k (wait k)),
        length_plans wait k (omega arith),
        length_plan k (wait k) (omega arith),
      )

  pub length_node : (p : ℕ) → length (node_as t p) ≡ 4 * cond (is_leaf t p) 0 1
  length_node p = go (is_leaf t p)
    where
      go : (leaf : Bool) → length (cond leaf [] (5 ∷ (entry t p).wait ∷ 0 ∷ 0 ∷ [])) ≡ 4 * cond leaf 0 1
      go true = refl
      go false = refl

  pub length_nodes : (k : ℕ) → length (nodes_as t k) ≡ 4 * nodes_before t k
  unfolding nodes_as nodes_before
  length_nodes zero = refl
  length_nodes (suc k) = omega (arith, length-append (nodes_as t k) (node_as t k), length_nodes k, length_node k)

  pub nodes_within : (k : ℕ) → nodes_before t k ≤ k
  unfolding nodes_before
  nodes_within zero = omega arith
  nodes_within (suc k) = go (is_leaf t k) (nodes_within k)
    where
      go : (leaf : Bool) → nodes_before t k ≤ k → nodes_before t k + cond leaf 0 1 ≤ suc k
      go true below = omega arith
      go false below = omega arith

  -- a plan with children has a node, a leaf has none
  pub node_more : (p : ℕ) → is_leaf t p ≡ false → nodes_before t (suc p) ≡ nodes_before t p + 1
  unfolding nodes_before
  node_more p parts = rw parts refl

  pub node_same : (p : ℕ) → is_leaf t p ≡ true → nodes_before t (suc p) ≡ nodes_before t p
  unfolding nodes_before
  node_same p leaf = rw leaf (omega arith)

  pub nodes_rise : (p n : ℕ) → p ≤ n → nodes_before t p ≤ nodes_before t n
  unfolding nodes_before
  nodes_rise p zero l = let first : p ≡ 0 = omega arith in omega (arith, ap (nodes_before t) first)
  nodes_rise p (suc n) l = go (ℕ_discrete p (suc n)) (nodes_rise p n)
    where
      go : Dec (p ≡ suc n) → (p ≤ n → nodes_before t p ≤ nodes_before t n) → nodes_before t p ≤ nodes_before t (suc n)
      go (yes e) before = omega (arith, ap (nodes_before t) e)
      go (no ne) before = omega (arith, before (omega arith))

  pub nodes_rise_past : (p n : ℕ) → p < n → is_leaf t p ≡ false → nodes_before t p < nodes_before t n
  nodes_rise_past p n l parts = omega (arith, node_more p parts, nodes_rise (suc p) n l)

  -- a plan with children, one of the first n, to which f gives the number i
  pub record Numbered (f : ℕ → ℕ) (n i : ℕ) : Type 0 where
    pub plan : ℕ
    pub inside : plan < n
    pub parts : is_leaf t plan ≡ false
    pub here : f plan ≡ i

  -- each number below that of the plans with children is one of theirs
  pub node_of : (n i : ℕ) → i < nodes_before t n → Numbered (nodes_before t) n i
  unfolding nodes_before
  node_of zero i l = absurd (omega arith)
  node_of (suc n) i l = go (is_leaf t n) refl (ℕ_discrete (nodes_before t n) i) (node_of n i)
    where
      later : Numbered (nodes_before t) n i → Numbered (nodes_before t) (suc n) i
      later c = record { plan = c.plan; inside = omega (arith, c.inside); parts = c.parts; here = c.here }

      go :
          (b : Bool) → is_leaf t n ≡ b → Dec (nodes_before t n ≡ i) → (i < nodes_before t n → Numbered (nodes_before t) n i)
          → Numbered (nodes_before t) (suc n) i
      go true e d before = later (before (omega (arith, node_same n e)))
      go false e (yes here) before = record { plan = n; inside = omega arith; parts = e; here = here }
      go false e (no not_here) before = later (before (omega (arith, node_more n e)))

  module _ (room : 8 + 8 * plan_count t ≤ length t) where
    -- the header and the plans
    pub length_front : (v : ℕ) (wait : ℕ → ℕ) → length (header_as t v ++ plans_as t wait (plan_count t)) ≡ 8 + 8 * plan_count t
    length_front v wait =
        omega (
          arith,
          length-append (header_as t v) (plans_as t wait (plan_count t)),
          length_header v (omega arith),
          length_plans wait (plan_count t) room,
        )

    pub length_1 : length (in_version1 t) ≡ 8 + 8 * plan_count t
    unfolding in_version1
    length_1 = length_front 1 (number_waited t)

    pub length_2 : length (in_version2 t) ≡ 10 + 8 * plan_count t + 4 * nodes_before t (plan_count t)
    unfolding in_version2
    length_2 =
        let n : ℕ = plan_count t in
        let k : ℕ = nodes_before t n in
        let count : List ℕ = k % 256 ∷ k / 256 ∷ [] in
        let front : List ℕ = header_as t 2 ++ plans_as t (nodes_before t) n in
        omega (
          arith,
          length-append (front ++ count) (nodes_as t n),
          length-append front count,
          length_front 2 (nodes_before t),
          length_nodes n,
        )
