-- Nodes in plan order: they are where each plan with children begins with the node of its number among those with children, and in a table
-- that may be moved to version 1 only there. Assumes nothing.
use Prim.Native.Nat.{ℕ, zero, suc, ◌≤◌, ◌<◌}
use native.Mathlib.Omega.{arith}
use native.Mathlib.Decide.{ℕ_discrete, dec_lt}
use mathlib.Core.Path.{◌≡◌, refl, sym, ap}
use mathlib.Core.Bool.{Bool, true, false, not, ◌&&◌}
use mathlib.Core.List.{List}
use lib.Dec.{leb}
use borrow.Author.Tests.{leb-false, lt-leb, not-true}
use Rattle.rules.specs.Lists.{some_below}
use Rattle.rules.specs.Table.{plan_count, entry}
use Rattle.rules.specs.WaitFor.{node_count, is_leaf}
use Rattle.rules.proofs.Below.{none_below, none_true}
use Rattle.versions.specs.Versions.{nodes_before, in_plan_order}
use Rattle.versions.proofs.Laid.{nodes_rise, nodes_rise_past, Numbered, node_of}
use Rattle.faithful.proofs.Passing.{MayMoveTo1}
use Rattle.faithful.proofs.OneKind.{begins_there, begins_some}

module _ (t : List ℕ) where
  -- the waits of plans with children rise
  abbrev Rise : Type 0
  Rise = (p q : ℕ) → p < q → q < plan_count t → is_leaf t p ≡ false → is_leaf t q ≡ false → (entry t p).wait < (entry t q).wait

  in_order_rise : in_plan_order t ≡ true → Rise
  unfolding in_plan_order
  in_order_rise in_order p q l inside parts parts' =
      let behind : ℕ → Bool = λ p. not (is_leaf t p) && leb (entry t q).wait (entry t p).wait in
      let all = none_true (λ q. not (is_leaf t q) && some_below (λ p. not (is_leaf t p) && leb (entry t q).wait (entry t p).wait) q) in
      let none : some_below behind q ≡ false = rw parts' at (all (plan_count t) (not-true _ in_order) q inside) in
      leb-false (entry t q).wait (entry t p).wait (rw parts at (none_true behind q none p l))

  rise_in_order : Rise → in_plan_order t ≡ true
  unfolding in_plan_order
  rise_in_order rise = ap not (none_below _ (plan_count t) (λ q inside. by_q q inside (is_leaf t q) refl))
    where
      by_p :
          (q p : ℕ) → q < plan_count t → p < q → is_leaf t q ≡ false → (leaf : Bool) → is_leaf t p ≡ leaf
          → (not leaf && leb (entry t q).wait (entry t p).wait) ≡ false
      by_p q p inside l parts' true is = refl
      by_p q p inside l parts' false is = lt-leb (entry t q).wait (entry t p).wait (rise p q l inside is parts')

      by_q :
          (q : ℕ) → q < plan_count t → (leaf : Bool) → is_leaf t q ≡ leaf
          → (not leaf && some_below (λ p. not (is_leaf t p) && leb (entry t q).wait (entry t p).wait) q) ≡ false
      by_q q inside true is = refl
      by_q q inside false is = none_below _ q (λ p l. by_p q p inside l is (is_leaf t p) refl)

  -- as they do where each is the number of plans with children before it
  pub numbered_in_order :
      ((p : ℕ) → p < plan_count t → is_leaf t p ≡ false → (entry t p).wait ≡ nodes_before t p) → in_plan_order t ≡ true
  numbered_in_order is =
      rise_in_order (λ p q l inside parts parts'.
      omega (arith, is p (omega arith) parts, is q inside parts', nodes_rise_past t p q l parts))

  -- f numbers plans with children: its numbers rise, and each number below one of them is one of them
  record Numbering (f : ℕ → ℕ) : Type 0 where
    rises : (p q : ℕ) → p < q → q < plan_count t → is_leaf t p ≡ false → is_leaf t q ≡ false → f p < f q
    meets : (p i : ℕ) → p < plan_count t → is_leaf t p ≡ false → i < f p → Numbered t f (plan_count t) i

  -- two that number them agree: where they do before plan p, neither is lower at p
  not_lower :
      {f g : ℕ → ℕ} → Numbering f → Numbering g → (p : ℕ) → p < plan_count t → is_leaf t p ≡ false
      → ((r : ℕ) → r < p → is_leaf t r ≡ false → f r ≡ g r)
      → g p ≤ f p
  not_lower {f} {g} one other p l parts before = go (dec_lt (f p) (g p))
    where
      by_plan : (met : Numbered t g (plan_count t) (f p)) → Dec (met.plan < p) → Dec (p ≡ met.plan) → g p ≤ f p
      by_plan met (yes earlier) d =
          let same = before met.plan earlier met.parts in
          absurd (omega (arith, met.here, one.rises met.plan p earlier l met.parts parts))
      by_plan met (no later) (yes e) = omega (arith, met.here, ap g e)
      by_plan met (no later) (no ne) =
          omega (arith, met.here, other.rises p met.plan (omega arith) met.inside parts met.parts)

      go : Dec (f p < g p) → g p ≤ f p
      go (no high) = omega arith
      go (yes low) = let met = other.meets p (f p) l parts low in by_plan met (dec_lt met.plan p) (ℕ_discrete p met.plan)

  agree :
      {f g : ℕ → ℕ} → Numbering f → Numbering g → (k p : ℕ) → p < k → p < plan_count t → is_leaf t p ≡ false → f p ≡ g p
  agree one other zero p small l parts = absurd (omega arith)
  agree {f} {g} one other (suc k) p small l parts =
      let before : (r : ℕ) → r < p → is_leaf t r ≡ false → f r ≡ g r = λ r m. agree one other k r (omega arith) (omega arith) in
      omega
      (arith, not_lower one other p l parts before, not_lower other one p l parts (λ r m is. sym (before r m is)))

  counted : Numbering (nodes_before t)
  counted =
      record {
        rises = λ p q l inside parts parts'. nodes_rise_past t p q l parts;
        meets = λ p i l parts low. node_of t (plan_count t) i (omega (arith, nodes_rise t p (plan_count t) (omega arith)));
      }

  module _ (may : MayMoveTo1 t) (in_order : in_plan_order t ≡ true) where
    placed : Numbering (λ p. (entry t p).wait)
    placed =
        record {
          rises = in_order_rise in_order;
          meets = λ p i l parts low. begins_some may i (omega (arith, begins_there may p l parts));
        }

    -- so each plan with children begins with the node of its number among them
    pub wait_before : (p : ℕ) → p < plan_count t → is_leaf t p ≡ false → (entry t p).wait ≡ nodes_before t p
    wait_before p = agree placed counted (suc p) p (omega arith)

    -- and there are as many nodes as plans with children
    pub count_before : node_count t ≡ nodes_before t (plan_count t)
    count_before = go (dec_lt (nodes_before t (plan_count t)) (node_count t)) (dec_lt (node_count t) (nodes_before t (plan_count t)))
      where
        go :
            Dec (nodes_before t (plan_count t) < node_count t) → Dec (node_count t < nodes_before t (plan_count t))
            → node_count t ≡ nodes_before t (plan_count t)
        go (yes more) d =
            let c = begins_some may (nodes_before t (plan_count t)) more in
            let same = wait_before c.plan c.inside c.parts in
            absurd (omega (arith, c.here, nodes_rise_past t c.plan (plan_count t) c.inside c.parts))
        go (no n) (yes fewer) =
            let c = node_of t (plan_count t) (node_count t) fewer in
            let same = wait_before c.plan c.inside c.parts in
            absurd (omega (arith, c.here, begins_there may c.plan c.inside c.parts))
        go (no n) (no m) = omega arith
