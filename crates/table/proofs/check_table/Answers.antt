-- `check_table` meets its contract: the outcome of the checks, said as a verdict. Assumes nothing.
use Rattle.std.proofs.Common.{Ok, Err, ◌≡◌, rules, sym, ap, ◌∙◌, arith}
use Rattle.rules.proofs.Tree.{accepted, refused}
use Rattle.table.proofs.Reading.{room_for_all}
use Rattle.table.proofs.check_table.Goals as goal

pub read_table-requires : goal.read_table-requires
read_table-requires c = room_for_all _ _ _ _ (omega arith) (omega arith) (omega arith)

pub returns-in_err-read_table : goal.returns-in_err-read_table
returns-in_err-read_table c =
    let is : c.from_residual.result ≡ Err c.in_err-read_table.field-0.0 = search rules in
    is ∙ sym (refused _ _ (sym c.read_table.ensures.is ∙ c.in_err-read_table.was))

pub returns : goal.returns
returns c =
    let done = sym c.read_table.ensures.is ∙ c.in_ok-read_table.was in
    ap Ok c.u16_at.ensures ∙ sym (accepted _ done)
