-- The loop of `Nodes::count_asked`: the operands of the nodes below i are counted.
use Rattle.std.proofs.Common.{◌≤◌}
use Rattle.nodes.specs.Checking.{Uses}
use Rattle.nodes.proofs.Nodes.count_asked.Given as goal

abbrev pub invariant-loop-i : goal.invariant-loop-i
invariant-loop-i l = (l.i ≤ l.self.k) × Uses l.self.table.now l.self.n l.i l.«uses»
