-- What `take_over` keeps: the bytes passed are those of the new states.
use Rattle.std.proofs.Common.{◌≡◌, ℕ, ◌<◌, get_or}
use Rattle.pass.proofs.take_over.Given as goal

abbrev pub invariant-loop-p : goal.invariant-loop-p
invariant-loop-p l = (k : ℕ) → k < l.p → get_or l.states k 0 ≡ get_or l.new k 0
