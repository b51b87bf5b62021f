-- The loop of `Plans::put_waiting`: the plans below p are put, each with the m of its node.
use Rattle.std.proofs.Common.{◌≡◌, ◌+◌, ◌*◌, ◌≤◌, length}
use Rattle.output.specs.Output.{Appended}
use Rattle.versions.specs.Versions.{plans_as, number_waited}
use Rattle.versions.proofs.Plans.put_waiting.Given as goal

abbrev pub invariant-loop-p : goal.invariant-loop-p
invariant-loop-p l =
    (l.p ≤ l.self.n)
    × (length l.output ≡ length l.initial.output)
    × Appended l.initial.output 8 (plans_as l.self.table.now (number_waited l.self.table.now) l.p) l.output (8 + 8 * l.p)
