-- The loop of `Nodes::own_asked`: the owners of the nodes below i are known, and of those above as far as these tell.
use Rattle.std.proofs.Common.{◌≤◌}
use Rattle.nodes.proofs.Owners.{Owning}
use Rattle.nodes.proofs.Nodes.own_asked.Given as goal

abbrev pub invariant-loop-i : goal.invariant-loop-i
invariant-loop-i l = (l.i ≤ l.self.k) × Owning l.self.table.now l.i l.owners
