-- `Nodes::own_firsts` meets its contract: each plan becomes the owner of the node that its formula begins with. Assumes nothing.
use Rattle.std.proofs.Common.{sym, ap, ◌∙◌, arith}
use Rattle.rules.specs.Table.{body_of, is_body}
use Rattle.rules.specs.declared.Body.TheVariants.{Leaf}
use Rattle.rules.specs.declared.PlanEntry.{PlanEntry}
use Rattle.nodes.proofs.Owners.{no_owners, leaf_turn, parent_turn}
use Rattle.nodes.proofs.Nodes.own_firsts.Goals as goal
use Rattle.nodes.proofs.Nodes.own_firsts.Goals.{then-not-is_leaf, else-not-is_leaf}

pub loop-p-init : goal.loop-p-init
loop-p-init c = (omega arith, no_owners _ _ c.requires)

pub loop-p-preserved : goal.loop-p-preserved
loop-p-preserved c =
    let leaf = sym (c.is_leaf.ensures ∙ ap (λ (e : PlanEntry). is_body Leaf (body_of e)) c.entry_at-e.ensures) in (
      omega arith,
      elim c.if-not-is_leaf.branch [
        | then-not-is_leaf w ↦
            rw (w.owners-is, w.from.ensures, ap (λ (e : PlanEntry). e.wait) c.entry_at-e.ensures)
            (parent_turn _ _ _ c.loop-p.invariant.1 (leaf ∙ w.if-not-is_leaf.true))
        | else-not-is_leaf w ↦ rw w.owners-is (leaf_turn _ _ _ c.loop-p.invariant.1 (leaf ∙ w.if-not-is_leaf.false))
      ],
    )
