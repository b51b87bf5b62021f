-- The loop of `find_unused`: plan by plan.
use Rattle.std.proofs.Common.{◌≡◌, ℕ, ◌<◌, get_or}
use Rattle.rules.specs.Table.{entry, body_of}
use Rattle.lent.specs.WordBits.{unused_bits}
use Rattle.parts.proofs.find_unused.Given as goal

abbrev pub invariant-loop-p : goal.invariant-loop-p
invariant-loop-p l = (q : ℕ) → q < l.p → get_or l.bits-items q 0 ≡ unused_bits (body_of (entry l.table q))
