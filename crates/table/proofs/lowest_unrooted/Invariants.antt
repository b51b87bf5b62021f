-- The loop of `lowest_unrooted`: the plans passed keep the parent rule.
use Rattle.std.proofs.Common.{◌≡◌, ℕ, ◌<◌, ◌≤◌, false}
use Rattle.rules.specs.Answers.{unrooted}
use Rattle.table.proofs.lowest_unrooted.Given as goal

abbrev pub invariant-loop-p : goal.invariant-loop-p
invariant-loop-p l = (0 < l.p) × (l.p ≤ l.n) × ((k : ℕ) → k < l.p → unrooted l.table k ≡ false)
