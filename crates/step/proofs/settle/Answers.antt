-- `settle` meets its contract: no step so far was without change, until one is or the budget is used. Assumes nothing.
use Rattle.std.proofs.Common.{◌≡◌, refl, sym, ap, ◌∙◌, Bool, List, ℕ, ◌≤◌, ◌<◌, length, take, arith}
use lib.ListN.{replicate, get_or-replicate}
use lib.Seq.{length-take-le}
use Rattle.rules.specs.Lists.{same}
use Rattle.rules.specs.Table.{plan_count}
use Rattle.rules.specs.Step.{step_under, step}
use Rattle.rules.proofs.Tree.{passes, tree}
use Rattle.family.specs.StepFacts.{picks_of}
use Rattle.lent.specs.Calls.{MayMove}
use Rattle.pass.specs.Taken.{Taken}
use Rattle.pass.proofs.Causes.{told_after_step, told_before_step, told_of_all}
use Rattle.pass.proofs.StepFacts.{
  known_names,
  may_survey,
  step_facts,
  may_take,
  taken_small,
  taken_step,
  may_resurvey,
  surveyed_part,
}
use Rattle.step.proofs.Rests.{running_none, running_next, moves_still, rests, moves}
use Rattle.step.proofs.settle.Goals as goal
use Rattle.step.proofs.settle.Goals.{then-k-budget, else-k-budget}

-- the plans are few
few : {t s w ranks names : List ℕ} → MayMove t s w ranks names → length s ≤ 256
few moves = omega (arith, moves.passes.long, (tree _ (passes _ moves.prepared.done)).small)

-- what the pass under the picks of the words gives is the step
is_step :
    (rule n : ℕ) (t s w ranks names picks x : List ℕ) → MayMove t s w ranks names → n ≡ plan_count t → Taken w n picks
    → x ≡ step_under rule t s w (picks_of picks) → x ≡ step rule t s w
is_step rule n t s w ranks names picks x may whole taken e = e ∙ taken_step t s w ranks names may n whole picks taken rule

-- the test for a change, as the code has it
tested :
    (n : ℕ) (states new next : List ℕ) (r : Bool) → length states ≡ n → take n new ≡ next → r ≡ same (take (length states) new) states
    → same next states ≡ r
tested n states new next r long e told = sym (told ∙ rw (long, e) refl)

pub survey-requires : goal.survey-requires
survey-requires c =
    let moves = c.requires.moves in
    let most = few moves in
    let may =
    may_survey _ _ _ _ _ moves _ moves.passes.long (replicate 2304 0) (omega (arith, most))
    (λ i l. get_or-replicate {A = ℕ} 2304 i 0 0 (omega (arith, l, most))) in
    record { rooted = may.0; narrow = may.1.0; codes = may.1.1.0; room = may.1.1.1.0; empty = may.1.1.1.1 }

pub take_picks-requires : goal.take_picks-requires
take_picks-requires c =
    let moves = c.requires.moves in
    (omega (arith, moves.words, moves.passes.long), few moves)

pub tell_causes-requires : goal.tell_causes-requires
tell_causes-requires c =
    let moves = c.requires.moves in
    (may_take _ _ _ _ _ moves _ moves.passes.long c.args.states.now _ (omega arith) c.requires.told).0

pub loop-k-init : goal.loop-k-init
loop-k-init c =
    let told = c.tell_causes.ensures in
    let none = told ∙ told_before_step _ _ _ _ in
    record {
      sets_long = c.survey.ensures.rest.long;
      new_long = refl;
      long = refl;
      told_long = ap length told ∙ told_of_all _ _ _ _ _ ∙ c.requires.told;
      running = running_none _ _ _ _ _ (none ∙ ap (λ (k : ℕ). replicate k 0) (c.requires.told ∙ c.requires.moves.passes.long));
      surveyed = c.survey.ensures.found;
    }

pub advance-requires : goal.advance-requires
advance-requires c =
    let inv = c.loop-k.invariant in
    let first = c.requires.moves in
    let most = few first in
    let whole = first.passes.long in
    let moves = moves_still _ _ _ _ _ _ first c.requires.words _ _ _ inv.running in
    record {
      facts =
          step_facts _ _ _ _ _ moves _ whole _ inv.surveyed (omega (arith, inv.sets_long, most)) _
          (omega (arith, most, c.take_picks.ensures.rest.long))
          (taken_small _ _ _ _ _ moves _ whole _ c.take_picks.ensures.taken);
      names = known_names _ _ _ _ _ first _ whole;
      room = (whole, omega (arith, inv.new_long, most), omega (arith, first.words, whole));
    }

pub unchanged-requires : goal.unchanged-requires
unchanged-requires c =
    let inv = c.loop-k.invariant in
    omega (arith, c.advance.ensures.rest.long, inv.new_long, inv.long, few c.requires.moves)

pub returns-then-unchanged : goal.returns-then-unchanged
returns-then-unchanged c =
    let inv = c.loop-k.invariant in
    let first = c.requires.moves in
    let at = moves_still _ _ _ _ _ _ first c.requires.words _ _ _ inv.running in
    let next = is_step _ _ _ _ _ _ _ _ _ at first.passes.long c.take_picks.ensures.taken c.advance.ensures.moved in
    rests _ _ _ _ _ _ _ inv.running _ c.loop-k-test.true (tested _ _ _ _ _ inv.long next c.unchanged.ensures ∙ c.if-unchanged.true)

pub slice_bounds-new-end : goal.slice_bounds-new-end
slice_bounds-new-end c = omega (arith, c.advance.ensures.rest.long, c.loop-k.invariant.new_long, few c.requires.moves)

pub slice_bounds-resurvey-end : goal.slice_bounds-resurvey-end
slice_bounds-resurvey-end c =
    sym (length-take-le _ _ (omega (arith, c.advance.ensures.rest.long, c.loop-k.invariant.new_long, few c.requires.moves)))

pub resurvey-requires : goal.resurvey-requires
resurvey-requires c =
    let inv = c.loop-k.invariant in
    let first = c.requires.moves in
    let whole = first.passes.long in
    let at = moves_still _ _ _ _ _ _ first c.requires.words _ _ _ inv.running in
    let next = is_step _ _ _ _ _ _ _ _ _ at whole c.take_picks.ensures.taken c.advance.ensures.moved in
    let moved =
    running_next _ _ _ _ _ _ _ inv.running _ _ (tested _ _ _ _ _ inv.long next c.unchanged.ensures ∙ c.if-unchanged.false) next refl in
    let may =
    may_resurvey _ _ _ _ _ at _ (moves_still _ _ _ _ _ _ first c.requires.words _ _ _ moved) _ whole _ inv.surveyed
    (omega (arith, few first, inv.sets_long)) in
    record { rooted = may.0; narrow = may.1.0; codes = may.1.1.0; room = may.1.1.1.0; surveyed = may.1.1.1.1 }

pub take_step-requires : goal.take_step-requires
take_step-requires c =
    let inv = c.loop-k.invariant in
    let first = c.requires.moves in
    let at = moves_still _ _ _ _ _ _ first c.requires.words _ _ _ inv.running in
    let may =
    may_take _ _ _ _ _ at _ first.passes.long _ _ (omega (arith, c.advance.ensures.rest.long, inv.new_long, few first)) inv.told_long in
    record { told = may.0; room = may.1 }

-- another turn: the budget is not used, so this one's step was taken
pub loop-k-preserved : goal.loop-k-preserved
loop-k-preserved c =
    let inv = c.loop-k.invariant in
    let first = c.requires.moves in
    let whole = first.passes.long in
    let at = moves_still _ _ _ _ _ _ first c.requires.words _ _ _ inv.running in
    let next = is_step _ _ _ _ _ _ _ _ _ at whole c.take_picks.ensures.taken c.advance.ensures.moved in
    let more : c.loop-k.k < c.args.budget = omega arith in
    elim c.if-k-budget.branch [
      | then-k-budget w ↦
          let why = told_after_step _ _ _ _ (tree _ (passes _ first.prepared.done)) _ _ _ whole (inv.told_long ∙ whole) next in
          record {
            sets_long = ap length w.sets-is ∙ w.resurvey.ensures.rest.long ∙ inv.sets_long;
            new_long = c.advance.ensures.rest.long ∙ inv.new_long;
            long = c.if-k-budget.auto.states ∙ inv.long;
            told_long = c.if-k-budget.auto.causes ∙ inv.told_long;
            running =
                running_next _ _ _ _ _ _ _ inv.running _ _ (tested _ _ _ _ _ inv.long next c.unchanged.ensures ∙ c.if-unchanged.false)
                (w.states-is ∙ w.take_step.ensures.left ∙ rw inv.long next) (w.causes-is ∙ w.take_step.ensures.told ∙ why);
            surveyed =
                rw w.sets-is
                (surveyed_part _ _ _ _ _ _ inv.long (w.states-is ∙ w.take_step.ensures.left) w.resurvey.ensures.found);
          }
      | else-k-budget w ↦ absurd (omega (arith, more, w.if-k-budget.false))
    ]

-- the last turn: the budget is used, and nothing was taken
pub returns-after-k-budget : goal.returns-after-k-budget
returns-after-k-budget c =
    let inv = c.loop-k.invariant in
    let first = c.requires.moves in
    let at = moves_still _ _ _ _ _ _ first c.requires.words _ _ _ inv.running in
    let next = is_step _ _ _ _ _ _ _ _ _ at first.passes.long c.take_picks.ensures.taken c.advance.ensures.moved in
    let used : c.loop-k.k ≡ c.args.budget = omega (arith, c.loop-k-test.true) in
    elim c.if-k-budget.branch [
      | then-k-budget w ↦ absurd (omega (arith, used, w.if-k-budget.true))
      | else-k-budget w ↦
          rw (w.states-is, w.causes-is)
          (moves _ _ _ _ _ _ _ inv.running _ used (tested _ _ _ _ _ inv.long next c.unchanged.ensures ∙ c.if-unchanged.false))
    ]
