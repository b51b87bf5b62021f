-- `unfit_entry` meets its contract: what its parts ensure, put together. Assumes nothing.
use Rattle.std.proofs.Common.{◌≡◌, ℕ, refl, sym, ap, ◌∙◌}
use mathlib.Core.Bool.{Bool, true, false, not, ◌&&◌, ◌||◌, beq, or_assoc, or-false}
use mathlib.Core.List.{map}
use lib.Dec.{eqb}
use Rattle.rules.specs.Lists.{some}
use Rattle.rules.specs.Table.{body_of, is_body, of_two, named, bit_of, conditions, retry_aborted, wait_for_optional}
use Rattle.rules.specs.Answers.{stray_at, unfit_entry}
use Rattle.rules.specs.declared.Body.TheVariants.{Leaf}
use Rattle.rules.specs.declared.PlanEntry.{PlanEntry}
use Rattle.rules.proofs.Derived.{same_body}
use Rattle.table.proofs.unfit_entry.Goals as goal

-- that two tests differ, said twice over
differ : (a b x y z : Bool) → (a && not b || not a && b || x || y || z) ≡ (not (beq a b) || x || y || z)
differ true true x y z = refl
differ true false x y z = refl
differ false true x y z = refl
differ false false x y z = refl

-- the tests of all bodies, as the code has them, and what a body of two adds or does not
module _ (p count : ℕ) (e : PlanEntry) where
  abbrev leaf : Bool
  leaf = is_body Leaf (body_of e)

  abbrev tests : Bool
  tests =
      leaf && not (eqb count 0) || not leaf && eqb count 0
      || some (stray_at e) (map bit_of conditions)
      || eqb p 0 && named e
      || leaf && (not (eqb e.wait 0) || retry_aborted e || wait_for_optional e)

  defined : (more : Bool) → (of_two (body_of e) && (not (eqb count 2) || retry_aborted e)) ≡ more → (tests || more) ≡ unfit_entry p count e
  unfolding unfit_entry
  defined more is =
      rw is
      (ap (λ (b : Bool). b || more)
      (differ leaf (eqb count 0) (some (stray_at e) (map bit_of conditions)) (eqb p 0 && named e)
      (leaf && (not (eqb e.wait 0) || retry_aborted e || wait_for_optional e))))

  of_two_lem : of_two (body_of e) ≡ true → (tests || not (eqb count 2) || retry_aborted e) ≡ unfit_entry p count e
  of_two_lem two = or_assoc tests (not (eqb count 2)) (retry_aborted e) ∙ defined (not (eqb count 2) || retry_aborted e) (rw two refl)

  other : of_two (body_of e) ≡ false → tests ≡ unfit_entry p count e
  other single = sym (or-false tests) ∙ defined false (rw single refl)

pub returns-then-is_of_two : goal.returns-then-is_of_two
returns-then-is_of_two c =
    let two = sym (c.is_of_two.ensures ∙ ap of_two c.body_kind-kind.ensures) ∙ c.if-is_of_two.true in
    simp (
      c.retries_aborted-then-is_of_two.ensures,
      c.stray.ensures,
      c.waits_for_optional.ensures,
      c.retries_aborted.ensures,
      c.is_named.ensures,
      c.eq-leaf.ensures ∙ same_body c.body_kind-kind.result Leaf,
      c.body_kind-kind.ensures,
    )
    (of_two_lem c.args.p c.args.count c.args.e two)

pub returns : goal.returns
returns c =
    let single = sym (c.is_of_two.ensures ∙ ap of_two c.body_kind-kind.ensures) ∙ c.if-is_of_two.false in
    simp (
      c.stray.ensures,
      c.waits_for_optional.ensures,
      c.retries_aborted.ensures,
      c.is_named.ensures,
      c.eq-leaf.ensures ∙ same_body c.body_kind-kind.result Leaf,
      c.body_kind-kind.ensures,
    )
    (other c.args.p c.args.count c.args.e single)
