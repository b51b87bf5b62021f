-- The loop of `find_numbers`: the numbers of the plans passed stand. It cannot reach other words.
use Rattle.std.proofs.Common.{◌≡◌, ◌<◌, get_or, ℕ}
use Rattle.formulas.specs.Asked.{number_asked}
use Rattle.formulas.proofs.find_numbers.Given as goal

abbrev pub invariant-loop-p : goal.invariant-loop-p
invariant-loop-p l = (q : ℕ) → q < l.p → get_or l.number-items q 0 ≡ number_asked l.table q
