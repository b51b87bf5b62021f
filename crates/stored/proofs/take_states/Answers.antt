-- `take_states` meets its contract: state by state. Assumes nothing.
use Rattle.std.proofs.Common.{refl, arith}
use Rattle.std.proofs.Math.ListN.{length-set}
use Rattle.stored.proofs.Turns.{no_states, next_state}
use Rattle.stored.proofs.take_states.Goals as goal

pub loop-p-init : goal.loop-p-init
loop-p-init c = (refl, no_states _ _)

pub loop-p-preserved : goal.loop-p-preserved
loop-p-preserved c =
    (simp length-set c.loop-p.invariant.0, next_state _ _ _ _ (omega (arith, c.loop-p.invariant.0)) c.loop-p.invariant.1)
