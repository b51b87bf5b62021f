-- `sub_tree` meets its contract: a table that is refused has no sub trees. Assumes nothing.
use Rattle.std.proofs.Common.{sym, ◌∙◌}
use Rattle.rules.proofs.Tree.{was_done, was_refused}
use Rattle.table.proofs.SubTrees.{none_of_refused}
use Rattle.table.proofs.sub_tree.Goals as goal

pub part-requires : goal.part-requires
part-requires c =
    let done = was_done _ _ (sym c.check_table.ensures ∙ c.in-Ok.is) in
    (done.0, c.from.ensures ∙ done.1)

pub returns-in-Err : goal.returns-in-Err
returns-in-Err c = sym (none_of_refused _ _ _ _ (was_refused _ _ (sym c.check_table.ensures ∙ c.in-Err.is)))
