-- `Plans::put_nodes` meets its contract: a turn puts the node of one plan more. Assumes nothing.
use Rattle.std.proofs.Common.{◌+◌, refl, ◌∙◌, arith}
use Rattle.versions.proofs.Laid.{length_node, length_nodes, nodes_rise}
use Rattle.versions.proofs.Turns.{next_count, no_nodes, next_node}
use Rattle.versions.proofs.Plans.put_nodes.Goals as goal

pub loop-p-init : goal.loop-p-init
loop-p-init c = (omega arith, refl, no_nodes _ _)

pub put_node-end-requires-clause-room : goal.put_node-end-requires-clause-room
put_node-end-requires-clause-room c =
    let t = c.args.self.now.table.now in
    let p = c.loop-p.p in
    omega (
      arith,
      c.requires,
      c.loop-p.invariant.1,
      c.loop-p.invariant.2.place,
      length_nodes t p,
      length_node t p,
      next_count t p,
      nodes_rise t (p + 1) c.args.self.now.n (omega arith),
    )

pub loop-p-preserved : goal.loop-p-preserved
loop-p-preserved c = (
  omega arith,
  c.put_node-end.auto.output ∙ c.loop-p.invariant.1,
  next_node _ _ _ c.loop-p.invariant.2 c.put_node-end.ensures,
)
