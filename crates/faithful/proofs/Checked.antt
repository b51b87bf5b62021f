-- The checks of a moved table that both ways share. Those of the header, of parents and of each plan's bytes pass, as they do for the table
-- that it was moved from; so it passes if its length, its formulas and its waits do. Assumes that the other table passes.
use Prim.Native.Nat.{ℕ, zero, suc, ◌≤◌, ◌<◌}
use native.Mathlib.Omega.{arith}
use mathlib.Core.Bool.{Bool, true, false, cond, not, ◌&&◌, ◌||◌}
use mathlib.Core.Path.{◌≡◌, refl, ◌∙◌, ap, ap₂}
use mathlib.Core.List.{List}
use lib.Dec.{eqb, leb, ltb}
use lib.ListN.{length}
use borrow.Author.Tests.{eq-eqb, le-ltb}
use Rattle.rules.specs.Lists.{same, least, no_plan}
use Rattle.rules.specs.Bytes.{text}
use Rattle.rules.specs.Table.{
  plan_count,
  entry,
  body_of,
  is_body,
  retry_aborted,
  wait_for_optional,
  parent,
  children_before,
  children,
  rank,
  is_or_is_above,
}
use Rattle.rules.specs.WaitFor.{first_version, table_size}
use Rattle.rules.specs.Answers.{unrooted, bad_parent, undefined_entry, undefined_byte, unfit_entry, unfit, formulas_check, bad_wait, header_check, plans_check, table_check, Done}
use Rattle.rules.specs.declared.Body.TheVariants.{Leaf}
use Rattle.rules.specs.declared.PlanEntry.{PlanEntry}
use Rattle.rules.proofs.Outcomes.{first_done, then_done, if_done, pass, pass_last, pass_at, pass_at_last, then_next}
use Rattle.rules.proofs.Tree.{Passes, tree}
use Rattle.lowest.proofs.Lowest.{lowest_is}
use Rattle.alike.proofs.SamePlans.{with_wait, SamePlans, plan_as, parent_as, before_as, children_as, above_as}
use Rattle.faithful.proofs.Shape.{Moved, same_count, same_last, wait_is, same_plans}
use Rattle.faithful.proofs.Passing.{room}
use Rattle.std.specs.Prelude.{None}

-- a search where nothing passes finds nothing
pub none_found : (f : ℕ → Bool) (n : ℕ) → ((k : ℕ) → k < n → f k ≡ false) → least f n ≡ None
none_found f n none = lowest_is f n None none

-- a table whose tests find nothing passes
checked : (t : List ℕ) → Passes t → table_check t ≡ Done
unfolding table_check plans_check
checked t passed =
    then_next (header_check t) _ passed.header
    ∙ pass _ _ _ (ap not (eq-eqb (length t) (table_size t) passed.long))
    ∙ pass_at _ _ _ (none_found (bad_parent t) (plan_count t) passed.parents)
    ∙ pass_at _ _ _ (none_found (undefined_byte t) (plan_count t) passed.bytes)
    ∙ pass_at _ _ _ (none_found (unfit t) (plan_count t) passed.fits)
    ∙ then_next _ _ (by_version (first_version t) refl)
    ∙ pass_at_last _ _ (none_found (bad_wait t) (plan_count t) passed.waits)
  where
    by_version : (first : Bool) → first_version t ≡ first → cond first Done (formulas_check t) ≡ Done
    by_version true e = refl
    by_version false e = passed.formulas e

-- check 8 reads byte 7 of leaves alone
wait_unread : (leaf : Bool) (m x : ℕ) (a b : Bool) → (leaf && (not (eqb (cond leaf m x) 0) || a || b)) ≡ (leaf && (not (eqb m 0) || a || b))
wait_unread true m x a b = refl
wait_unread false m x a b = refl

unfit_as : (p k x : ℕ) (e : PlanEntry) → unfit_entry p k (with_wait (cond (is_body Leaf (body_of e)) e.wait x) e) ≡ unfit_entry p k e
unfolding unfit_entry
unfit_as p k x e = rw (wait_unread (is_body Leaf (body_of e)) e.wait x (retry_aborted e) (wait_for_optional e))

module _ {t u : List ℕ} {v : ℕ} {wait : ℕ → ℕ} (m : Moved t u v wait) (passed : Passes t) where
  pub plans : SamePlans t u
  plans = same_plans m (room passed)

  -- 1 to 4
  header_passes : (eqb v 1 || eqb v 2) ≡ true → 8 ≤ length u → header_check u ≡ Done
  unfolding header_check
  header_passes known long =
      let r₂ = then_done _ _ passed.header in
      let r₃ = then_done _ _ r₂ in
      pass _ _ _ (le-ltb (length u) 8 long)
      ∙ pass _ _ _ (ap (λ (mark : List ℕ). not (same mark (text "APT"))) m.mark ∙ if_done _ _ (first_done _ _ r₂))
      ∙ pass _ _ _ (ap (λ (x : ℕ). not (eqb x 1 || eqb x 2)) m.number ∙ ap not known)
      ∙ pass_last _ _
      (ap₂ (λ (n b : ℕ). ltb n 1 || ltb 256 n || not (eqb b 0)) (same_count m) (same_last m) ∙ if_done _ _ (then_done _ _ r₃))

  -- 6
  unrooted_as : (p : ℕ) → p < plan_count t → unrooted u p ≡ unrooted t p
  unfolding unrooted
  unrooted_as zero l = ap (λ (q : ℕ). not (eqb q no_plan)) (parent_as plans 0 l)
  unrooted_as (suc k) l =
      ap not
      (ap (λ (q : ℕ). is_or_is_above u q k k) (parent_as plans (suc k) l)
      ∙ above_as plans (tree t passed) (parent t (suc k)) k k (omega arith))

  rank_as : (p : ℕ) → p < plan_count t → rank u p ≡ rank t p
  unfolding rank
  rank_as p l = ap length (ap (λ (q : ℕ). children_before u q p) (parent_as plans p l) ∙ before_as plans (parent t p) p (omega arith))

  parents_pass : (p : ℕ) → p < plan_count t → bad_parent u p ≡ false
  unfolding bad_parent
  parents_pass p l = ap₂ (λ (b : Bool) (r : ℕ). b || leb 64 r) (unrooted_as p l) (rank_as p l) ∙ passed.parents p l

  -- 7 and 8
  bytes_pass : (p : ℕ) → p < plan_count t → undefined_byte u p ≡ false
  unfolding undefined_byte undefined_entry
  bytes_pass p l = plan_as plans undefined_entry (λ x e. refl) p l ∙ passed.bytes p l

  fits_pass : (p : ℕ) → p < plan_count t → unfit u p ≡ false
  unfolding unfit
  fits_pass p l =
      ap₂ (unfit_entry p) (ap length (children_as plans p))
      (plans.entries p l ∙ ap (λ (x : ℕ). with_wait x (entry t p)) (wait_is m (room passed) p l))
      ∙ unfit_as p (length (children t p)) (wait p) (entry t p)
      ∙ passed.fits p l

  -- with 5, 22 and 9 the table passes
  pub moved_passes :
      (eqb v 1 || eqb v 2) ≡ true → length u ≡ table_size u → (first_version u ≡ false → formulas_check u ≡ Done)
      → ((p : ℕ) → p < plan_count t → bad_wait u p ≡ false)
      → table_check u ≡ Done
  moved_passes known long formulas waits =
      let inside : (p : ℕ) → p < plan_count u → p < plan_count t = λ p l. rw (same_count m) at l in
      checked u
      record {
        header = header_passes known (omega (arith, long));
        long = long;
        parents = λ p l. parents_pass p (inside p l);
        bytes = λ p l. bytes_pass p (inside p l);
        fits = λ p l. fits_pass p (inside p l);
        formulas = formulas;
        waits = λ p l. waits p (inside p l);
      }
