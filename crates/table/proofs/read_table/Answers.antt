-- `read_table` meets its contract: the header's checks, then the rest. Assumes nothing.
use Rattle.std.proofs.Common.{Err, ◌≡◌, rules, sym, ◌∙◌}
use Rattle.table.proofs.Reading.{header_refused, refused_checked}
use Rattle.table.proofs.read_table.Goals as goal

pub returns-in_err-header_check : goal.returns-in_err-header_check
returns-in_err-header_check c =
    let is : c.from_residual.result ≡ Err c.in_err-header_check.field-0.0 = search rules in
    rw is (refused_checked _ _ _ _ _ (header_refused _ _ (sym c.header_check.ensures ∙ c.in_err-header_check.was)))
