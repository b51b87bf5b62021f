-- `lowest_bad_word` meets its contract: the search goes by `is_bad_word`. Assumes nothing.
use Rattle.std.proofs.Common.{rules}
use Rattle.lowest.proofs.Ranges.{lowest_from_find}
use Rattle.lent.proofs.lowest_bad_word.Goals as goal

pub returns : goal.returns
returns c = lowest_from_find _ _ _ _ _ c.find.ensures.ran (λ x b q k. search rules)
