-- `table_size` meets its contract: the end of the plans, or of the nodes behind them. Assumes nothing.
use Rattle.std.proofs.Common.{arith}
use Rattle.rules.proofs.Tree.{header}
use Rattle.table.proofs.table_size.Goals as goal

pub plan_count-requires : goal.plan_count-requires
plan_count-requires c = (header _ c.requires).room

pub is_first_version-requires : goal.is_first_version-requires
is_first_version-requires c = (header _ c.requires).room

-- the plans are few
pub u16_within-requires : goal.u16_within-requires
u16_within-requires c = omega (arith, c.plan_count.ensures, (header _ c.requires).small)
