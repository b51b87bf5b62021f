-- `check_to_1` meets its contract: 23 after the table's checks. Assumes nothing.
use Rattle.std.proofs.Common.{sym, ◌∙◌}
use Rattle.std.proofs.lemmas.Result.{err_from_is_err_and}
use Rattle.rules.proofs.Outcomes.{then_next, then_stops}
use Rattle.versions.specs.Versions.{check_to1}
use Rattle.versions.proofs.Moves.{has_nodes}
use Rattle.versions.proofs.check_to_1.Goals as goal

pub returns-in_err-check_from : goal.returns-in_err-check_from
unfolding check_to1
returns-in_err-check_from c =
    let p = err_from_is_err_and c.from_residual.result c.from_residual.ensures.1 in
    rw (p.1, p.2) (sym (then_stops _ _ _ (sym c.in_err-check_from.ensures)))

pub kinds_check-requires : goal.kinds_check-requires
kinds_check-requires c = has_nodes _ (sym c.in_ok-check_from.ensures)

pub returns : goal.returns
unfolding check_to1
returns c = c.kinds_check.ensures ∙ sym (then_next _ _ (sym c.in_ok-check_from.ensures))
