-- The loop of `Nodes::count_firsts`: the first nodes of the plans below p are counted.
use Rattle.std.proofs.Common.{◌≤◌}
use Rattle.nodes.specs.Checking.{Uses}
use Rattle.nodes.proofs.Nodes.count_firsts.Given as goal

abbrev pub invariant-loop-p : goal.invariant-loop-p
invariant-loop-p l = (l.p ≤ l.self.n) × Uses l.self.table.now l.p 0 l.«uses»
