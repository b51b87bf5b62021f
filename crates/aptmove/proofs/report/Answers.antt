-- `report` meets its contract: the moved table lies in the buffer. Assumes nothing.
use Rattle.std.proofs.Common.{arith}
use Rattle.aptmove.proofs.Inputs.{table_lies}
use Rattle.aptmove.proofs.report.Goals as goal

pub returns-in-Ok-clause-within : goal.returns-in-Ok-clause-within
returns-in-Ok-clause-within c = table_lies _ _ _ (omega arith) (omega arith) c.in-Ok.ensures.left _ c.in-Ok.ensures.is
