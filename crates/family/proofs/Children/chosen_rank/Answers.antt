-- `chosen_rank` meets its contract: the digit of the pick, else the lowest digit of the named ones, else the lowest digit. Assumes nothing.
use Rattle.std.proofs.Common.{eq-eqb, ne_eqb}
use Rattle.rules.specs.declared.PlanState.TheVariants.{Ready}
use Rattle.family.proofs.ChildWords.{in_one, picked_is, named_is, lowest_is}
use Rattle.family.proofs.Children.chosen_rank.Goals as goal

pub returns-then-ready-pick-eq1 : goal.returns-then-ready-pick-eq1
returns-then-ready-pick-eq1 c t s picks p known child names e =
    let ready = in_one known Ready c.in_state-ready.ensures in
    rw (← e) (picked_is known child picks ready (rw e (eq-eqb _ _ c.if-ready-pick-eq1.true)))

pub returns-then-mandatory-ne0 : goal.returns-then-mandatory-ne0
returns-then-mandatory-ne0 c t s picks p known child names e =
    let ready = in_one known Ready c.in_state-ready.ensures in
    named_is known child picks ready names (rw e (ne_eqb _ _ c.if-ready-pick-eq1.false)) (ne_eqb _ _ c.if-mandatory-ne0.true)

pub returns : goal.returns
returns c t s picks p known child names e =
    let ready = in_one known Ready c.in_state-ready.ensures in
    lowest_is known child picks ready names (rw e (ne_eqb _ _ c.if-ready-pick-eq1.false)) (eq-eqb _ _ c.if-mandatory-ne0.false)
