-- One turn of each loop: the plan that is put, or the node, is the next piece. Assumes nothing.
use Prim.Native.Nat.{ℕ, zero, suc, ◌+◌, ◌*◌, ◌≤◌}
use native.Mathlib.Numerals.{add-one}
use Rattle.std.proofs.Common.{add-zero, zero-add}
use native.Mathlib.Omega.{arith}
use mathlib.Core.Path.{◌≡◌, refl, sym, ap, ◌∙◌, subst}
use mathlib.Core.Bool.{Bool, true, false, cond, not}
use mathlib.Core.List.{List, ◌++◌}
use lib.ListN.{length}
use mir.Val.{bool_byte}
use Rattle.std.specs.Prelude.{filter}
use Rattle.std.specs.List.{range_with_len}
use Rattle.rules.specs.WaitFor.{is_leaf}
use Rattle.output.specs.Output.{Appended}
use Rattle.output.proofs.Pieces.{none_yet, and_then, as_one}
use Rattle.versions.specs.Versions.{header_as, plan_as, plans_as, nodes_before, node_as, nodes_as}
use Rattle.versions.proofs.Laid.{length_header, length_plan}

module _ (t : List ℕ) where
  -- so many nodes before the next plan
  pub next_count : (p : ℕ) → nodes_before t (p + 1) ≡ nodes_before t p + cond (is_leaf t p) 0 1
  unfolding nodes_before
  next_count p = rw (add-one p)

  -- which is one more where it has children
  pub next_node_number :
      (p one : ℕ) (leaf : Bool) → leaf ≡ is_leaf t p → one ≡ bool_byte (not leaf)
      → (nodes_before t (p + 1) ≡ nodes_before t p + one) × (one ≤ 1)
  next_node_number p one true e h = (next_count p ∙ ap (λ (b : Bool). nodes_before t p + cond b 0 1) (sym e) ∙ ap (λ (k : ℕ). nodes_before t p + k) (sym h), omega (arith, h))
  next_node_number p one false e h = (next_count p ∙ ap (λ (b : Bool). nodes_before t p + cond b 0 1) (sym e) ∙ ap (λ (k : ℕ). nodes_before t p + k) (sym h), omega (arith, h))

  -- a plan with children
  abbrev parts : ℕ → Bool
  parts i = not (is_leaf t i)

  -- those among the first k plans are counted
  counted_on : (k p : ℕ) → nodes_before t p + length (filter parts (range_with_len p k)) ≡ nodes_before t (p + k)
  counted_on zero p = omega (arith, ap (nodes_before t) (add-zero p))
  counted_on (suc k) p =
      omega (arith, next_count p, counted_on k (p + 1), here (is_leaf t p) refl, ap (nodes_before t) (one_on k p))
    where
      one_on : (k p : ℕ) → p + 1 + k ≡ p + suc k
      one_on k p = omega arith

      here :
          (leaf : Bool) → is_leaf t p ≡ leaf
          → length (filter parts (range_with_len p (suc k))) ≡ cond (is_leaf t p) 0 1 + length (filter parts (range_with_len (p + 1) k))
      here true e = rw e (omega arith)
      here false e = rw e (omega arith)

  pub counted : (k : ℕ) → length (filter parts (range_with_len 0 k)) ≡ nodes_before t k
  unfolding nodes_before
  counted k = omega (arith, counted_on k 0, ap (nodes_before t) (zero-add k))

  module _ {before : List ℕ} where
    -- plans stand behind the header
    pub after_header :
        (v end : ℕ) {middle after : List ℕ} {plans : List ℕ} {new : ℕ} → 8 ≤ length t → Appended before 0 (header_as t v) middle end
        → Appended middle 8 plans after new
        → Appended before 0 (header_as t v ++ plans) after new
    after_header v end {middle} room put more =
        let place : end ≡ 8 = omega (arith, put.place, length_header t v room) in
        and_then (subst (λ (k : ℕ). Appended before 0 (header_as t v) middle k) place put) more

    -- plans, from the header's end on
    pub no_plans : (wait : ℕ → ℕ) → Appended before 8 (plans_as t wait 0) before 8
    unfolding plans_as
    no_plans wait = none_yet before 8

    pub next_plan :
        (wait : ℕ → ℕ) (p x end : ℕ) {middle after : List ℕ} → 16 + 8 * p ≤ length t → x ≡ wait p
        → Appended before 8 (plans_as t wait p) middle (8 + 8 * p) → Appended middle (8 + 8 * p) (plan_as t p x) after end
        → Appended before 8 (plans_as t wait (p + 1)) after (8 + 8 * (p + 1))
    unfolding plans_as
    next_plan wait p x end {middle} {after} room is put more =
        let place : end ≡ 8 + 8 * (p + 1) = omega (arith, more.place, length_plan t p x room) in
        let both = as_one (and_then put more) (ap (λ (b : ℕ). plans_as t wait p ++ plan_as t p b) is) in
        subst (λ (k : ℕ). Appended before 8 (plans_as t wait (p + 1)) after k) place (rw (add-one p) both)

    -- nodes, from any place on
    pub no_nodes : (at : ℕ) → Appended before at (nodes_as t 0) before at
    unfolding nodes_as
    no_nodes at = none_yet before at

    pub next_node :
        (at p : ℕ) {middle after : List ℕ} {end new : ℕ} → Appended before at (nodes_as t p) middle end
        → Appended middle end (node_as t p) after new
        → Appended before at (nodes_as t (p + 1)) after new
    unfolding nodes_as
    next_node at p put more = rw (add-one p) (and_then put more)
