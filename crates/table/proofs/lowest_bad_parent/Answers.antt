-- `lowest_bad_parent` meets its contract: the plans before the first that breaks the parent rule have ranks. Assumes nothing.
use Rattle.table.proofs.Shape.{rooted_to, shaped}
use Rattle.table.proofs.lowest_bad_parent.Goals as goal

pub rank_children-requires-clause-rooted : goal.rank_children-requires-clause-rooted
rank_children-requires-clause-rooted c =
    let table = c.requires.table in
    rw c.unwrap_or-rooted.ensures (rooted_to _ _ table.1 table.2 _ c.lowest_unrooted-unrooted.ensures)

pub returns : goal.returns
returns c =
    let table = c.requires.table in
    let rooted = c.unwrap_or-rooted.ensures in
    rw c.or.ensures
    (shaped _ _ table.0 table.1 table.2 _ _ _ _ c.lowest_unrooted-unrooted.ensures (rw rooted at c.rank_children.ensures.found)
    (rw rooted at c.lowest_crowded.ensures))
