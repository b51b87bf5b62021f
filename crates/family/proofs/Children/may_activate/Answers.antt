-- `may_activate` meets its contract: the words of the states that it asks for. Assumes nothing.
use Rattle.rules.specs.declared.PlanState.TheVariants.{Aborted}
use Rattle.family.proofs.ChildWords.{in_one, may_is}
use Rattle.family.proofs.Children.may_activate.Goals as goal

pub returns : goal.returns
returns c t s known e = may_is e (c.running.ensures t s known) (in_one known Aborted c.in_state.ensures)
