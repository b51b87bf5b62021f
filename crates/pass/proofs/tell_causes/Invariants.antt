-- What `tell_causes` keeps: the causes of the plans passed are told.
use Rattle.std.proofs.Common.{◌≡◌, ℕ, ◌<◌, get_or}
use Rattle.rules.specs.States.{cause_code}
use Rattle.moves.specs.Causes.{cause_told}
use Rattle.pass.proofs.tell_causes.Given as goal

abbrev pub invariant-loop-p : goal.invariant-loop-p
invariant-loop-p l = (k : ℕ) → k < l.p → get_or l.causes k 0 ≡ cause_code (cause_told l.table l.old l.words l.new k)
