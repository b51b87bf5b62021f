-- `Plans::put_numbered` meets its contract: a turn puts one plan more, with the number of its node. Assumes nothing.
use Rattle.std.proofs.Common.{refl, ◌∙◌, arith}
use Rattle.versions.specs.Versions.{nodes_before}
use Rattle.versions.proofs.Laid.{nodes_within}
use Rattle.versions.proofs.Turns.{next_node_number, no_plans, next_plan}
use Rattle.versions.proofs.Plans.put_numbered.Goals as goal

pub loop-p-init : goal.loop-p-init
unfolding nodes_before
loop-p-init c = (omega arith, refl, refl, no_plans _ _)

-- a node's number fits a byte
pub overflow_cast-nodes : goal.overflow_cast-nodes
overflow_cast-nodes c = omega (arith, c.loop-p.invariant.2, nodes_within c.args.self.now.table.now c.loop-p.p, c.args.self.now.there.small)

pub overflow_add-nodes : goal.overflow_add-nodes
overflow_add-nodes c =
    let t = c.args.self.now.table.now in
    let next = next_node_number t c.loop-p.p _ _ c.is_leaf_at.ensures c.from-nodes.ensures in
    omega (arith, next.1, c.loop-p.invariant.2, nodes_within t c.loop-p.p, c.args.self.now.there.small)

pub loop-p-preserved : goal.loop-p-preserved
loop-p-preserved c =
    let t = c.args.self.now.table.now in
    let next = next_node_number t c.loop-p.p _ _ c.is_leaf_at.ensures c.from-nodes.ensures in (
      omega arith,
      c.put_plan-nodes.auto.output ∙ c.loop-p.invariant.1,
      omega (arith, c.loop-p.invariant.2, next.0),
      next_plan _ (nodes_before t) _ _ _ (omega (arith, c.args.self.now.there.room)) c.loop-p.invariant.2 c.loop-p.invariant.3
          c.put_plan-nodes.ensures,
    )
