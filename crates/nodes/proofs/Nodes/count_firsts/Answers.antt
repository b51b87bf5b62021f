-- `Nodes::count_firsts` meets its contract: a turn counts the first node of one more plan's formula. Assumes nothing.
use Rattle.std.proofs.Common.{sym, ap, ◌∙◌, arith}
use Rattle.rules.specs.Table.{body_of, is_body}
use Rattle.rules.specs.declared.Body.TheVariants.{Leaf}
use Rattle.rules.specs.declared.PlanEntry.{PlanEntry}
use Rattle.nodes.proofs.Uses.{leaf_first, parent_first}
use Rattle.nodes.proofs.Nodes.count_firsts.Goals as goal
use Rattle.nodes.proofs.Nodes.count_firsts.Goals.{then-not-is_leaf, else-not-is_leaf}

pub loop-p-preserved : goal.loop-p-preserved
loop-p-preserved c =
    let leaf = sym (c.is_leaf.ensures ∙ ap (λ (e : PlanEntry). is_body Leaf (body_of e)) c.entry_at-e.ensures) in (
      omega arith,
      elim c.if-not-is_leaf.branch [
        | then-not-is_leaf w ↦
            rw (w.uses-is, w.count_use.ensures, ap (λ (e : PlanEntry). e.wait) c.entry_at-e.ensures)
            (parent_first _ _ _ c.loop-p.invariant.1 (leaf ∙ w.if-not-is_leaf.true))
        | else-not-is_leaf w ↦ rw w.uses-is (leaf_first _ _ _ c.loop-p.invariant.1 (leaf ∙ w.if-not-is_leaf.false))
      ],
    )
