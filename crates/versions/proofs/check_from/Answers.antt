-- `check_from` meets its contract: the checks before the table's own decide first. Assumes nothing.
use Rattle.std.proofs.Common.{sym, ◌∙◌}
use Rattle.std.proofs.lemmas.Result.{err_from_is_err_and}
use Rattle.rules.proofs.Outcomes.{then_next, then_stops}
use Rattle.rules.proofs.Tree.{was_done, was_refused}
use Rattle.versions.specs.Versions.{check_from}
use Rattle.versions.proofs.check_from.Goals as goal

pub returns-in_err-version_check : goal.returns-in_err-version_check
unfolding check_from
returns-in_err-version_check c =
    let p = err_from_is_err_and c.from_residual.result c.from_residual.ensures.1 in
    rw (p.1, p.2) (sym (then_stops _ _ _ (sym c.in_err-version_check.ensures)))

pub returns-in_err-check_table : goal.returns-in_err-check_table
unfolding check_from
returns-in_err-check_table c =
    let p = err_from_is_err_and c.from_residual-in_err-check_table.result c.from_residual-in_err-check_table.ensures.1 in
    rw (p.1, p.2)
    (sym (then_next _ _ (sym c.in_ok-version_check.ensures) ∙ was_refused _ _ (sym c.in_err-check_table.ensures)))

pub returns : goal.returns
unfolding check_from
returns c = sym (then_next _ _ (sym c.in_ok-version_check.ensures) ∙ (was_done _ _ (sym c.in_ok-check_table.ensures)).0)
