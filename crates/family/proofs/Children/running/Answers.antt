-- `running` meets its contract: the words of both states. Assumes nothing.
use Rattle.rules.specs.declared.PlanState.TheVariants.{Activated, Suspended}
use Rattle.family.proofs.ChildWords.{in_one, in_either}
use Rattle.family.proofs.Children.running.Goals as goal

pub returns : goal.returns
returns c t s known = in_either (in_one known Activated c.in_state.ensures) (in_one known Suspended c.in_state-2.ensures)
