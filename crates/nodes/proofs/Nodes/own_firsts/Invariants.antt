-- The loop of `Nodes::own_firsts`: the plans below p own the nodes that their formulas begin with.
use Rattle.std.proofs.Common.{◌≤◌}
use Rattle.nodes.specs.Checking.{FirstOwners}
use Rattle.nodes.proofs.Nodes.own_firsts.Given as goal

abbrev pub invariant-loop-p : goal.invariant-loop-p
invariant-loop-p l = (l.p ≤ l.self.n) × FirstOwners l.self.table.now l.p l.owners
