-- `PlanEntry::satisfiable` meets its contract: what `Condition::bit` and `is_set` ensure, put together. Assumes nothing.
use Rattle.rules.specs.Words.{satisfiable}
use Rattle.rules.proofs.PlanEntry.satisfiable.Goals as goal

pub returns : goal.returns
unfolding satisfiable
returns c = simp (c.from.ensures, c.from-2.ensures, ← c.bit-k.ensures.is, c.is_set-3.ensures, c.is_set-2.ensures, c.is_set.ensures)
