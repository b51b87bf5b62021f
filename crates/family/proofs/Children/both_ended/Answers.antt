-- `both_ended` meets its contract: the words of the states that it asks for, made by the first and the second child. Assumes nothing.
use Rattle.rules.specs.Step.{state_of_first, state_of_second}
use Rattle.rules.specs.declared.PlanState.TheVariants.{Inactive, Completed, Aborted, Rejected}
use Rattle.family.proofs.ChildWords.{in_one, in_either, of_two_lem}
use Rattle.family.proofs.TwoChildren.{both_ended_is}
use Rattle.family.proofs.Children.both_ended.Goals as goal

pub returns : goal.returns
returns c t s known two =
    let idle = in_one known Inactive c.in_state-idle.ensures in
    let aborted = in_one known Aborted c.in_state-aborted.ensures in
    let completed = in_one known Completed c.in_state.ensures in
    let rejected = in_one known Rejected c.in_state-2.ensures in
    let over = in_either (in_either completed rejected) aborted in
    both_ended_is c.args.body (state_of_first t s c.args.self.now.q) (state_of_second t s c.args.self.now.q) (of_two_lem two (in_either idle over))
    (of_two_lem two over) (of_two_lem two aborted) (of_two_lem two idle) c.after_abort.ensures
