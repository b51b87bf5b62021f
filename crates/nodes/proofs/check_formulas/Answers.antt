-- `check_formulas` meets its contract: each check in its turn, the last two by `Nodes::check_asked`. Assumes nothing.
use Rattle.std.proofs.Common.{sym, ◌∙◌}
use Rattle.nodes.specs.Checking.{HasNodes}
use Rattle.nodes.proofs.Owners.{many_nodes, stray_first_lem, bad_node_lem, ranks_next}
use Rattle.nodes.proofs.check_formulas.Goals as goal

pub returns-then-k-gt256 : goal.returns-then-k-gt256
returns-then-k-gt256 c =
    let nodes : HasNodes c.args.table.now c.args.n c.node_count-k.result = rw c.node_count-k.ensures c.requires.0 in
    sym (many_nodes _ _ _ nodes _ c.if-k-gt256.true)

pub returns-then-has_stray_first : goal.returns-then-has_stray_first
returns-then-has_stray_first c =
    let nodes : HasNodes c.args.table.now c.args.n c.node_count-k.result = rw c.node_count-k.ensures c.requires.0 in
    sym (stray_first_lem _ _ _ nodes _ c.if-k-gt256.false (sym c.has_stray_first.ensures ∙ c.if-has_stray_first.true))

pub returns-in-Some : goal.returns-in-Some
returns-in-Some c =
    let nodes : HasNodes c.args.table.now c.args.n c.node_count-k.result = rw c.node_count-k.ensures c.requires.0 in
    sym
    (bad_node_lem _ _ _ nodes _ c.if-k-gt256.false (sym c.has_stray_first.ensures ∙ c.if-has_stray_first.false) _
    c.in-Some.ensures)

pub returns : goal.returns
returns c =
    let nodes : HasNodes c.args.table.now c.args.n c.node_count-k.result = rw c.node_count-k.ensures c.requires.0 in
    ranks_next _ _ _ nodes _ c.if-k-gt256.false (sym c.has_stray_first.ensures ∙ c.if-has_stray_first.false)
    c.in_default.ensures _ c.check_asked.ensures
