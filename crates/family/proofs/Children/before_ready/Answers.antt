-- `before_ready` meets its contract: the words of the three states. Assumes nothing.
use Rattle.rules.specs.declared.PlanState.TheVariants.{Inactive, Considered, Possible}
use Rattle.family.proofs.ChildWords.{in_one, in_either}
use Rattle.family.proofs.Children.before_ready.Goals as goal

pub returns : goal.returns
returns c t s known =
    let inactive = in_one known Inactive c.in_state.ensures in
    let considered = in_one known Considered c.in_state-2.ensures in
    in_either (in_either inactive considered) (in_one known Possible c.in_state-3.ensures)
