-- What `take_picks` keeps: the picks of the words passed are taken.
use Rattle.std.proofs.Common.{◌≡◌, ℕ, ◌<◌}
use Rattle.rules.specs.Words.{word, pick_of}
use Rattle.family.specs.StepFacts.{picks_of}
use Rattle.pass.proofs.take_picks.Given as goal

abbrev pub invariant-loop-p : goal.invariant-loop-p
invariant-loop-p l = (q : ℕ) → q < l.p → picks_of l.pick-items q ≡ pick_of (word l.words q)
