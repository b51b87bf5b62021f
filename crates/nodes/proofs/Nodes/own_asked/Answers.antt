-- `Nodes::own_asked` meets its contract: before a turn at node i its owner is known, and the turn tells it of i's operands. Assumes nothing.
use Rattle.std.proofs.Common.{arith}
use Rattle.nodes.proofs.Owners.{owning_first, owning_turn}
use Rattle.nodes.proofs.Nodes.own_asked.Goals as goal

pub loop-i-init : goal.loop-i-init
loop-i-init c = (omega arith, owning_first _ _ _ c.args.self.now.there.whole c.requires.owners)

pub loop-i-preserved : goal.loop-i-preserved
loop-i-preserved c =
    let at = c.loop-i in (
      omega arith,
      simp (c.own_operands.ensures, c.asks.ensures, c.node_at.ensures)
          (owning_turn _ at.i _ (omega (arith, c.args.self.now.few)) (c.requires.good at.i c.loop-i-test.true) _ at.invariant.1),
    )
