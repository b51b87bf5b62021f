-- `check` meets its contract: the rule number's check, then the table's, then the record's. Assumes nothing.
use Rattle.std.proofs.Common.{sym, ap, not, arith}
use Rattle.std.proofs.lemmas.Result.{err_from_is_err_and}
use Rattle.rules.proofs.Outcomes.{rule_stops, rule_passes}
use Rattle.table.proofs.Reading.{room_for_all}
use Rattle.record.proofs.Form.{rule_refused, table_refused}
use Rattle.record.proofs.check.Goals as goal

pub returns-then-not-is_rule : goal.returns-then-not-is_rule
returns-then-not-is_rule c = rule_refused _ _ _ _ (rule_stops _ c.is_rule.ensures (ap not c.if-not-is_rule.true))

pub read_table-requires : goal.read_table-requires
read_table-requires c = room_for_all _ _ _ _ (omega arith) (omega arith) (omega arith)

pub check_record-requires-clause-ruled : goal.check_record-requires-clause-ruled
check_record-requires-clause-ruled c = rule_passes _ c.is_rule.ensures (ap not c.if-not-is_rule.false)

pub returns-in_err-read_table : goal.returns-in_err-read_table
returns-in_err-read_table c =
    let p = err_from_is_err_and c.from_residual.result c.from_residual.ensures.1 in
    rw (p.1, p.2)
    (table_refused _ _ _ _ (rule_passes _ c.is_rule.ensures (ap not c.if-not-is_rule.false)) (sym c.in_err-read_table.ensures.is))
