-- `not_ended` meets its contract: the words of the six states. Assumes nothing.
use Rattle.rules.specs.declared.PlanState.TheVariants.{Ready}
use Rattle.family.proofs.ChildWords.{in_one, in_either}
use Rattle.family.proofs.Children.not_ended.Goals as goal

pub returns : goal.returns
returns c t s known =
    let waiting = c.before_ready.ensures t s known in
    let ready = in_one known Ready c.in_state.ensures in
    in_either (in_either waiting ready) (c.running.ensures t s known)
