-- `not_lost` meets its contract: the words of the states that the rule and retry-aborted keep. Assumes nothing.
use Rattle.std.proofs.Common.{◌≡◌, true, false, ◌&&◌, eqb}
use Rattle.rules.specs.declared.PlanState.TheVariants.{Completed, Aborted}
use Rattle.family.proofs.ChildWords.{in_one, in_either}
use Rattle.family.proofs.Children.not_lost.Goals as goal

pub returns-then-rule-again : goal.returns-then-rule-again
returns-then-rule-again c t s known =
    let spared : (eqb c.args.rule 2 && c.args.again) ≡ true = c.if-rule-again.true in
    let others = in_either (c.not_ended.ensures t s known) (in_one known Completed c.in_state.ensures) in
    rw spared (in_either others (in_one known Aborted c.in_state-aborted.ensures))

pub returns : goal.returns
returns c t s known =
    let not_spared : (eqb c.args.rule 2 && c.args.again) ≡ false = c.if-rule-again.false in
    rw not_spared (in_either (c.not_ended.ensures t s known) (in_one known Completed c.in_state.ensures))
