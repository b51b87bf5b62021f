-- What a moved table looks like, beside the table that it was moved from: the form in which laws speak of it. What it keeps: the number of
-- plans, and each plan but for byte 7 of those with children. Assumes that the plans of the other table lie within it.
use Prim.Native.Nat.{ℕ, zero, suc, ◌+◌, ◌*◌, ◌≤◌, ◌<◌}
use native.Mathlib.Omega.{arith}
use mathlib.Core.Path.{◌≡◌, refl, sym, ap, ap₂, ◌∙◌}
use mathlib.Core.Bool.{Bool, true, false, cond}
use mathlib.Core.List.{List, [], ◌∷◌}
use lib.ListN.{length, take, drop, length-drop}
use lib.Seq.{length-take-le, take_at, get_or_at, take-take}
use Rattle.rules.specs.Bytes.{byte_at}
use Rattle.rules.specs.Table.{version, plan_count, entry}
use Rattle.rules.specs.WaitFor.{node_count, node, is_leaf}
use Rattle.versions.specs.Versions.{plan_as, nodes_before}
use Rattle.alike.proofs.SamePlans.{with_wait, SamePlans, leaf_as}
use Rattle.faithful.proofs.InARow.{byte_of}

-- u has the header of t but for its version, and the plans of t but that `wait` gives byte 7 of those with children
pub record Moved (t u : List ℕ) (v : ℕ) (wait : ℕ → ℕ) : Type 0 where
  pub mark : take 3 u ≡ take 3 t
  pub number : version u ≡ v
  pub others : take 3 (drop 5 u) ≡ take 3 (drop 5 t)
  pub plans : (p : ℕ) → p < plan_count t → take 8 (drop (8 + 8 * p) u) ≡ plan_as t p (wait p)

-- behind them u has one node of kind 5 for each plan with children, in plan order
pub record HasNodes (t u : List ℕ) : Type 0 where
  pub long : length u ≡ 10 + 8 * plan_count t + 4 * nodes_before t (plan_count t)
  pub many : node_count u ≡ nodes_before t (plan_count t)
  pub nodes :
      (p : ℕ) → p < plan_count t → is_leaf t p ≡ false
      → node u (nodes_before t p) ≡ record { kind = 5; a = (entry t p).wait; b = 0; last = 0 }

module _ {t u : List ℕ} {v : ℕ} {wait : ℕ → ℕ} (is : Moved t u v wait) where
  -- bytes 5 to 7 of the header
  header_byte : (i : ℕ) → i < 3 → byte_at u (5 + i) ≡ byte_at t (5 + i)
  header_byte i l = byte_of u (take 3 (drop 5 t)) 5 3 i is.others l ∙ sym (byte_of t (take 3 (drop 5 t)) 5 3 i refl l)

  pub same_count : plan_count u ≡ plan_count t
  same_count = ap₂ (λ (low high : ℕ). low + 256 * high) (header_byte 0 (omega arith)) (header_byte 1 (omega arith))

  pub same_last : byte_at u 7 ≡ byte_at t 7
  same_last = header_byte 2 (omega arith)

  module _ (room : 8 + 8 * plan_count t ≤ length t) where
    module _ (p : ℕ) (inside : p < plan_count t) where
      front_room : length (take 7 (drop (8 + 8 * p) t)) ≡ 7
      front_room = length-take-le 7 (drop (8 + 8 * p) t) (omega (arith, length-drop (8 + 8 * p) t))

      -- the plan's bytes before byte 7
      pub same_front : take 7 (drop (8 + 8 * p) u) ≡ take 7 (drop (8 + 8 * p) t)
      same_front =
          sym (take-take 7 8 (drop (8 + 8 * p) u) (omega arith))
          ∙ ap (take 7) (is.plans p inside)
          ∙ take_at (take 7 (drop (8 + 8 * p) t)) (cond (is_leaf t p) (entry t p).wait (wait p) ∷ []) 7 front_room

      same_byte : (k i : ℕ) → k ≡ 8 + 8 * p + i → i < 7 → byte_at u k ≡ byte_at t k
      same_byte k i e l =
          let front : List ℕ = take 7 (drop (8 + 8 * p) t) in
          rw e (byte_of u front (8 + 8 * p) 7 i same_front l ∙ sym (byte_of t front (8 + 8 * p) 7 i refl l))

      -- byte 7, by whether the plan has children
      pub wait_is : (entry u p).wait ≡ cond (is_leaf t p) (entry t p).wait (wait p)
      wait_is =
          byte_of u (plan_as t p (wait p)) (8 + 8 * p) 8 7 (is.plans p inside) (omega arith)
          ∙ get_or_at (take 7 (drop (8 + 8 * p) t)) _ [] 0 7 front_room

      pub leaf_wait : is_leaf t p ≡ true → (entry u p).wait ≡ (entry t p).wait
      leaf_wait leaf = wait_is ∙ ap (λ (b : Bool). cond b (entry t p).wait (wait p)) leaf

      pub parent_wait : is_leaf t p ≡ false → (entry u p).wait ≡ wait p
      parent_wait parts = wait_is ∙ ap (λ (b : Bool). cond b (entry t p).wait (wait p)) parts

      -- the plan as it was, but for byte 7
      same_bytes : entry u p ≡ with_wait (entry u p).wait (entry t p)
      same_bytes =
          let at : ℕ = 8 + 8 * p in
          rw (
            same_byte at 0 (omega arith) (omega arith),
            same_byte (at + 1) 1 refl (omega arith),
            same_byte (at + 2) 2 refl (omega arith),
            same_byte (at + 3) 3 refl (omega arith),
            same_byte (at + 4) 4 refl (omega arith),
            same_byte (at + 5) 5 refl (omega arith),
            same_byte (at + 6) 6 refl (omega arith),
          )

    pub same_plans : SamePlans t u
    same_plans = record { plans = same_count; entries = same_bytes }

    pub same_leaf : (p : ℕ) → p < plan_count t → is_leaf u p ≡ is_leaf t p
    same_leaf = leaf_as same_plans

    -- so the number of plans with children is the same
    pub same_nodes : (k : ℕ) → k ≤ plan_count t → nodes_before u k ≡ nodes_before t k
    unfolding nodes_before
    same_nodes zero l = refl
    same_nodes (suc k) l =
        ap₂ (λ (before : ℕ) (leaf : Bool). before + cond leaf 0 1) (same_nodes k (omega arith)) (same_leaf k (omega arith))
