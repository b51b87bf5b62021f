-- `take_states` meets its contract: state by state. Assumes nothing.
use Rattle.std.proofs.Common.{◌≡◌, length}
use Rattle.stored.specs.Stored.{states_in}
use Rattle.output.specs.Output.{Appended}
use Rattle.stored.proofs.take_states.Given as goal

abbrev pub invariant-loop-p : goal.invariant-loop-p
invariant-loop-p l = (length l.states ≡ length l.fn.states) × Appended l.fn.states 0 (states_in l.p l.stored) l.states l.p
