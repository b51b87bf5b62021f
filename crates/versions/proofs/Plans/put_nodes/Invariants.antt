-- The loop of `Plans::put_nodes`: the nodes of the plans below p are put.
use Rattle.std.proofs.Common.{◌≡◌, ◌≤◌, length}
use Rattle.output.specs.Output.{Appended}
use Rattle.versions.specs.Versions.{nodes_as}
use Rattle.versions.proofs.Plans.put_nodes.Given as goal

abbrev pub invariant-loop-p : goal.invariant-loop-p
invariant-loop-p l =
    (l.p ≤ l.self.n) × (length l.output ≡ length l.initial.output) × Appended l.initial.output l.at (nodes_as l.self.table.now l.p) l.output l.end
