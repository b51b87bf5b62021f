-- What holds of a table that passes its checks: how long it is in each version, that byte 7 of a leaf is 0, and that at most 255 plans have
-- children. What the checks of a move tell. Assumes nothing.
use Prim.Native.Nat.{ℕ, zero, suc, ◌+◌, ◌*◌, ◌≤◌, ◌<◌}
use native.Mathlib.Omega.{arith}
use mathlib.Core.Path.{◌≡◌, refl, sym, ap, ap₂, ◌∙◌}
use mathlib.Core.Bool.{Bool, true, false, cond, not, ◌&&◌, ◌||◌, beq, false≢true}
use mathlib.Core.List.{List, [], ◌∷◌, ◌++◌, map}
use lib.Dec.{eqb}
use lib.ListN.{length}
use borrow.Author.Tests.{eqb-true, eq-eqb, ne_eqb, not-false}
use Rattle.rules.specs.Lists.{some}
use Rattle.rules.specs.Table.{
  version,
  plan_count,
  entry,
  retry_aborted,
  wait_for_optional,
  named,
  bit_of,
  conditions,
  parent,
  is_child,
  children_before,
  children,
}
use Rattle.rules.specs.WaitFor.{first_version, node_count, table_size, is_leaf}
use Rattle.rules.specs.Answers.{stray_at, unfit_any, unfit_two, unfit_entry, unfit, header_check, table_check, Done}
use Rattle.rules.specs.declared.PlanEntry.{PlanEntry}
use Rattle.rules.proofs.Outcomes.{first_done, then_done, if_done, pass, pass_last, then_next}
use Rattle.rules.proofs.Tree.{Passes, or_left, or_right, passes, tree}
use Rattle.versions.specs.Versions.{nodes_before, version_check, other_kind, check_from, check_to2, check_to1}
use Rattle.versions.proofs.Laid.{nodes_within, node_same}
use Rattle.versions.proofs.Moves.{passed as table_done, moved_from, from_second}

-- a table that may be moved to version 2, and one that may be moved to version 1
pub record MayMoveTo2 (t : List ℕ) : Type 0 where
  pub passed : Passes t
  pub first : version t ≡ 1

pub record MayMoveTo1 (t : List ℕ) : Type 0 where
  pub passed : Passes t
  pub second : version t ≡ 2
  pub plain : other_kind t ≡ false

module _ (t : List ℕ) where
  -- the version decides how byte 7 is read, and where the table ends
  pub is_first : version t ≡ 1 → first_version t ≡ true
  is_first e = ap (λ (v : ℕ). eqb v 1) e

  pub is_second : version t ≡ 2 → first_version t ≡ false
  is_second e = ap (λ (v : ℕ). eqb v 1) e

  pub size_1 : version t ≡ 1 → table_size t ≡ 8 + 8 * plan_count t
  size_1 e = ap (λ (b : Bool). 8 + 8 * plan_count t + cond b 0 (2 + 4 * node_count t)) (is_first e) ∙ omega arith

  pub size_2 : version t ≡ 2 → table_size t ≡ 10 + 8 * plan_count t + 4 * node_count t
  size_2 e = ap (λ (b : Bool). 8 + 8 * plan_count t + cond b 0 (2 + 4 * node_count t)) (is_second e) ∙ omega arith

module _ {t : List ℕ} (passed : Passes t) where
  pub room : 8 + 8 * plan_count t ≤ length t
  room = omega (arith, passed.long)

  -- a leaf's byte 7 is 0
  pub leaf_zero : (p : ℕ) → p < plan_count t → is_leaf t p ≡ true → (entry t p).wait ≡ 0
  unfolding unfit unfit_entry
  leaf_zero p l leaf =
      let e : PlanEntry = entry t p in
      let k : ℕ = length (children t p) in
      let others : Bool =
      not (beq (is_leaf t p) (eqb k 0)) || some (stray_at e) (map bit_of conditions) || eqb p 0 && named e in
      let waits : Bool = not (eqb e.wait 0) || retry_aborted e || wait_for_optional e in
      let none = or_right others (is_leaf t p && waits) (or_left (unfit_any p k e) (unfit_two k e) (passed.fits p l)) in
      let zero_wait = or_left _ (retry_aborted e) (or_left _ (wait_for_optional e) (sym (ap (λ (b : Bool). b && waits) leaf) ∙ none)) in
      eqb-true e.wait 0 (not-false (eqb e.wait 0) zero_wait)

  -- parents are earlier, so the last plan has no children
  childless : (m k : ℕ) → k ≤ suc m → k ≤ plan_count t → children_before t m k ≡ []
  unfolding children_before
  childless m zero l inside = refl
  childless m (suc k) l inside =
      ap₂ (λ (before : List ℕ) (b : Bool). before ++ cond b (k ∷ []) []) (childless m k (omega arith) (omega arith)) (no_child k l inside)
    where
      no_child : (k : ℕ) → suc k ≤ suc m → suc k ≤ plan_count t → is_child t m k ≡ false
      no_child zero l inside = refl
      no_child (suc k) l inside =
          ne_eqb (parent t (suc k)) m (λ e. omega (arith, (tree t passed).down (suc k) (omega arith) inside))

  last_leaf : (m : ℕ) → plan_count t ≡ suc m → is_leaf t m ≡ true
  unfolding unfit unfit_entry children
  last_leaf m is =
      let count : ℕ = length (children t m) in
      let none : count ≡ 0 = ap length (childless m (plan_count t) (omega arith) (omega arith)) in
      let fits = passed.fits m (omega arith) in
      by_test (is_leaf t m) (eqb count 0) (rw none)
      (not-false _ (or_left _ _ (or_left _ _ (or_left _ _ (or_left _ _ fits)))))
    where
      by_test : (leaf none : Bool) → none ≡ true → beq leaf none ≡ true → leaf ≡ true
      by_test true none e same = refl
      by_test false true e same = absurd (false≢true same)
      by_test false false e same = absurd (false≢true e)

  pub few_nodes : nodes_before t (plan_count t) ≤ 255
  few_nodes = go (plan_count t) refl
    where
      go : (n : ℕ) → plan_count t ≡ n → nodes_before t n ≤ 255
      go zero is = absurd (omega (arith, (tree t passed).some))
      go (suc m) is = omega (arith, node_same t m (last_leaf m is), nodes_within t m, (tree t passed).small)

-- The checks of a move.
module _ (t : List ℕ) where
  -- what they tell
  pub may_2 : check_to2 t ≡ Done → MayMoveTo2 t
  may_2 done = record { passed = passes t (table_done t 1 done); first = moved_from t 1 done }

  pub may_1 : check_to1 t ≡ Done → MayMoveTo1 t
  unfolding check_to1
  may_1 done =
      record {
        passed = passes t (table_done t 2 (from_second t done));
        second = moved_from t 2 (from_second t done);
        plain = if_done _ _ (then_done (check_from t 2) _ done);
      }

  -- and what passes them
  from_passes : (v : ℕ) → table_check t ≡ Done → version t ≡ v → check_from t v ≡ Done
  unfolding check_from version_check header_check
  from_passes v done is =
      let r₁ = (passes t done).header in
      let r₂ = then_done _ _ r₁ in
      then_next (version_check t v) (table_check t)
      (pass _ _ _ (if_done _ _ (first_done _ _ r₁))
      ∙ pass _ _ _ (if_done _ _ (first_done _ _ r₂))
      ∙ pass_last _ _ (ap not (eq-eqb (version t) v is)))
      ∙ done

  pub to_2_passes : table_check t ≡ Done → version t ≡ 1 → check_to2 t ≡ Done
  to_2_passes = from_passes 1

  pub to_1_passes : table_check t ≡ Done → version t ≡ 2 → other_kind t ≡ false → check_to1 t ≡ Done
  unfolding check_to1
  to_1_passes done second plain = then_next (check_from t 2) _ (from_passes 2 done second) ∙ pass_last _ _ plain
