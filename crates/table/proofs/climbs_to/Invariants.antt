-- The loop of `climbs_to`: climbing goes down in plan numbers, and changes no answer.
use Rattle.std.proofs.Common.{◌≡◌, ◌≤◌}
use Rattle.rules.specs.Table.{is_or_is_above}
use Rattle.table.proofs.climbs_to.Given as goal

abbrev pub invariant-loop-p : goal.invariant-loop-p
invariant-loop-p l = (l.p ≤ l.from) × (is_or_is_above l.table l.a l.from l.from ≡ is_or_is_above l.table l.a l.p l.p)

abbrev pub decreases-loop-p : goal.decreases-loop-p
decreases-loop-p l = l.p
