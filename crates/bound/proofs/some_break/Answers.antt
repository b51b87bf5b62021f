-- `some_break` meets its contract: its closure asks one plan. Assumes nothing.
use Rattle.std.proofs.Common.{rules}
use Rattle.rules.proofs.Ranges.{some_from_any}
use Rattle.demands.specs.Bound.{both_hold}
use Rattle.bound.specs.Asked.{breaks_premise}
use Rattle.bound.proofs.some_break.Goals as goal

pub returns : goal.returns
unfolding both_hold
returns c = some_from_any (breaks_premise c.args.table.now c.args.words.now) _ _ _ _ c.any.ensures.ran (λ x b q k. search rules)
