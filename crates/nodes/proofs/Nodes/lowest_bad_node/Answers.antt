-- `Nodes::lowest_bad_node` meets its contract: all uses are counted, and its closure computes the test. Assumes nothing.
use Rattle.std.proofs.Common.{refl, rules, ℕ}
use lib.ListN.{replicate, get_or-replicate}
use Rattle.lowest.proofs.Ranges.{lowest_from_find}
use Rattle.nodes.proofs.Owners.{no_uses}
use Rattle.nodes.proofs.Nodes.lowest_bad_node.Goals as goal

pub count_firsts-requires : goal.count_firsts-requires
count_firsts-requires c = no_uses _ (replicate 256 0) (λ j l. get_or-replicate {A = ℕ} 256 j 0 0 l) refl

pub returns : goal.returns
returns c = lowest_from_find _ _ _ _ _ c.find.ensures.ran (λ x b q k. search rules)
