-- `gate_open` meets its contract: the words of the states that it asks for. Assumes nothing.
use Rattle.rules.specs.declared.PlanState.TheVariants.{Completed, Aborted}
use Rattle.family.proofs.ChildWords.{in_one, in_either, gate_is}
use Rattle.family.proofs.Children.gate_open.Goals as goal

pub returns : goal.returns
returns c t s known =
    let waiting = c.before_ready.ensures t s known in
    let begun = c.running.ensures t s known in
    let completed = in_one known Completed c.in_state.ensures in
    let aborted = in_one known Aborted c.in_state-2.ensures in
    gate_is waiting (in_either begun (in_either completed aborted))
