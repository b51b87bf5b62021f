-- The loop of `Plans::put_numbered`: the plans below p are put, each with the number of its node.
use Rattle.std.proofs.Common.{◌≡◌, ◌+◌, ◌*◌, ◌≤◌, length}
use Rattle.output.specs.Output.{Appended}
use Rattle.versions.specs.Versions.{plans_as, nodes_before}
use Rattle.versions.proofs.Plans.put_numbered.Given as goal

abbrev pub invariant-loop-p : goal.invariant-loop-p
invariant-loop-p l =
    (l.p ≤ l.self.n)
    × (length l.output ≡ length l.initial.output)
    × (l.nodes ≡ nodes_before l.self.table.now l.p)
    × Appended l.initial.output 8 (plans_as l.self.table.now (nodes_before l.self.table.now) l.p) l.output (8 + 8 * l.p)
