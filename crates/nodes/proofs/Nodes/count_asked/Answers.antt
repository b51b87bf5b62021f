-- `Nodes::count_asked` meets its contract: a turn counts the operands of one more node. Assumes nothing.
use Rattle.std.proofs.Common.{arith}
use Rattle.nodes.proofs.Uses.{next_asked}
use Rattle.nodes.proofs.Nodes.count_asked.Goals as goal

pub loop-i-preserved : goal.loop-i-preserved
loop-i-preserved c = (
  omega arith,
  simp (c.count_operands.ensures, c.asks.ensures, c.node_at.ensures) (next_asked _ _ _ _ c.loop-i.invariant.1),
)
