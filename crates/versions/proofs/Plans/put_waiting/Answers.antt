-- `Plans::put_waiting` meets its contract: a turn puts one plan more. Assumes nothing.
use Rattle.std.proofs.Common.{refl, ◌∙◌, arith}
use Rattle.versions.specs.Versions.{number_waited}
use Rattle.versions.proofs.Turns.{no_plans, next_plan}
use Rattle.versions.proofs.Plans.put_waiting.Goals as goal

pub loop-p-init : goal.loop-p-init
loop-p-init c = (omega arith, refl, no_plans _ _)

pub loop-p-preserved : goal.loop-p-preserved
loop-p-preserved c = (
  omega arith,
  c.put_plan.auto.output ∙ c.loop-p.invariant.1,
  next_plan _ (number_waited c.args.self.now.table.now) _ _ _ (omega (arith, c.args.self.now.there.room)) c.number_waited.ensures
      c.loop-p.invariant.2 c.put_plan.ensures,
)
