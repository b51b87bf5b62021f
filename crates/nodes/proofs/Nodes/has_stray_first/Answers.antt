-- `Nodes::has_stray_first` meets its contract: its closure computes the test. Assumes nothing.
use Rattle.std.proofs.Common.{rules}
use Rattle.rules.proofs.Ranges.{some_from_any}
use Rattle.nodes.proofs.Nodes.has_stray_first.Goals as goal

pub returns : goal.returns
returns c = some_from_any _ _ _ _ _ c.any.ensures.ran (λ x b q k. search rules)
