-- `stamp` meets its contract: a turn lays down one plan more. Assumes nothing.
use Rattle.std.proofs.Common.{◌≡◌, ◌*◌, length}
use Rattle.stored.specs.Stored.{stamped}
use Rattle.output.specs.Output.{Appended}
use Rattle.stored.proofs.stamp.Given as goal

abbrev pub invariant-loop-p : goal.invariant-loop-p
invariant-loop-p l =
    (length l.stored ≡ length l.fn.stored) × Appended l.fn.stored 0 (stamped l.p l.fn.stored l.new l.number) l.stored (8 * l.p)
