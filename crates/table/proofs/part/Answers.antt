-- `part` meets its contract: the cases of the sub tree question on a table that passes. Assumes nothing.
use Rattle.std.proofs.Common.{◌<◌, sym, ap, ◌∙◌, arith}
use Rattle.std.specs.Option.{unwrap_or}
use Rattle.rules.specs.Table.{plan_count}
use Rattle.rules.proofs.Tree.{passes, tree}
use Rattle.formulas.proofs.Formed.{plans_within}
use Rattle.table.proofs.Descendants.{ends_at}
use Rattle.table.proofs.SubTrees.{none_of_length, none_of_plan, part_of}
use Rattle.table.proofs.part.Goals as goal

pub returns-then-states-n : goal.returns-then-states-n
returns-then-states-n c = sym (none_of_length _ _ _ c.requires.0 (λ e. c.if-states-n.true (e ∙ sym c.requires.1)))

pub returns-then-n-plan : goal.returns-then-n-plan
returns-then-n-plan c = sym (none_of_plan _ _ _ c.requires.0 (omega (arith, c.requires.1, c.if-n-plan.true)))

pub first_after-requires : goal.first_after-requires
first_after-requires c =
    let passed = passes _ c.requires.0 in
    let table-tree = tree _ passed in
    (c.if-n-plan.false, omega (arith, c.requires.1, table-tree.small), omega (arith, c.requires.1, plans_within c.args.table.now passed.long))

pub returns : goal.returns
returns c =
    let t = c.args.table.now in
    let there : c.args.plan < plan_count t = omega (arith, c.requires.1, c.if-n-plan.false) in
    let ends = ends_at t _ c.args.plan there _ (rw c.requires.1 at c.first_after.ensures) in
    let whole = c.if-states-n.false ∙ c.requires.1 in
    let end = c.unwrap_or-e.ensures ∙ ap (unwrap_or c.first_after.result) c.requires.1 in
    sym (part_of t _ _ c.requires.0 whole there _ (rw end ends))
