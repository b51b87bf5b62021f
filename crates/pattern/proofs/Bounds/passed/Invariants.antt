-- `passed` meets its contract: the samples passed make the pass so far, and what is found stays. Assumes nothing.
use Rattle.std.proofs.Common.{◌≡◌}
use Rattle.time.specs.Search.{pass_to, NamedPass}
use Rattle.pattern.proofs.Bounds.passed.Given as goal

abbrev pub invariant-loop-x : goal.invariant-loop-x
invariant-loop-x l = (l.pass ≡ pass_to l.self.window l.samples l.x-index) × NamedPass l.pass
