-- `stamp` meets its contract: a turn lays down one plan more. Assumes nothing.
use Rattle.std.proofs.Common.{refl, ◌∙◌}
use Rattle.stored.proofs.Turns.{none_laid, next_laid}
use Rattle.stored.proofs.stamp.Goals as goal

pub loop-p-init : goal.loop-p-init
loop-p-init c = (refl, none_laid _ _ _)

pub loop-p-preserved : goal.loop-p-preserved
loop-p-preserved c =
    (c.stamp_plan.auto.stored ∙ c.loop-p.invariant.0, next_laid _ _ _ _ _ _ _ _ c.loop-p.invariant.1 refl c.stamp_plan.ensures)
