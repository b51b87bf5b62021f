-- `Owned::lowest_bad_rank` meets its contract: its closure computes the test. Assumes nothing.
use Rattle.std.proofs.Common.{rules}
use Rattle.lowest.proofs.Ranges.{lowest_from_find}
use Rattle.nodes.proofs.Owned.lowest_bad_rank.Goals as goal

pub returns : goal.returns
returns c = lowest_from_find _ _ _ _ _ c.find.ensures.ran (λ x b q k. search rules)
