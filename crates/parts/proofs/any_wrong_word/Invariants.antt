-- The loop of `any_wrong_word`: it tells of the words passed whether one is wrong.
use Rattle.std.proofs.Common.{◌≡◌}
use Rattle.rules.specs.Lists.{some_below}
use Rattle.parts.specs.OneStep.{wrong_at}
use Rattle.parts.proofs.any_wrong_word.Given as goal

abbrev pub invariant-loop-p : goal.invariant-loop-p
invariant-loop-p l = l.bad ≡ some_below (wrong_at l.unused l.words) l.p
