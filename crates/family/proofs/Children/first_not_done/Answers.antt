-- `first_not_done` meets its contract: the first child outside the words of what is done. Assumes nothing.
use Rattle.std.proofs.Common.{true, false, sym, ◌∙◌}
use Rattle.rules.specs.declared.PlanState.TheVariants.{Completed, Rejected, Aborted}
use Rattle.family.proofs.ChildWords.{in_one, in_either, not_done_is}
use Rattle.family.proofs.Children.first_not_done.Goals as goal

pub returns-then-again : goal.returns-then-again
returns-then-again c t s p known child e =
    let completed = in_one known Completed c.in_state.ensures in
    let rejected = in_one known Rejected c.in_state-2.ensures in
    not_done_is known child true (sym c.if-again.true ∙ e) (in_either completed rejected)

pub returns : goal.returns
returns c t s p known child e =
    let completed = in_one known Completed c.in_state.ensures in
    let rejected = in_one known Rejected c.in_state-2.ensures in
    let aborted = in_one known Aborted c.in_state-aborted.ensures in
    not_done_is known child false (sym c.if-again.false ∙ e) (in_either (in_either completed rejected) aborted)
