-- `passed` meets its contract: what is found stays. Assumes nothing.
use Rattle.std.proofs.Common.{◌≡◌, ◌+◌, true, length, sym, ◌∙◌, add-one, arith}
use Rattle.time.specs.Search.{is_found, pass_to}
use Rattle.time.proofs.Passes.{found_stays}
use Rattle.pattern.proofs.Bounds.passed.Goals.{in-Found, in_default}
use Rattle.pattern.proofs.Bounds.passed.Goals as goal

pub returns-then-matches-clause-is : goal.returns-then-matches-clause-is
unfolding pass_to
returns-then-matches-clause-is c =
    let w = c.args.self.window in
    let samples = c.args.samples.now in
    let i = c.loop-x.x-index in
    let found : is_found c.next-pass.result ≡ true =
    elim c.match-matches.branch [ in-Found w ↦ rw w.in-Found.is | in_default w ↦ cc ] in
    let new : c.next-pass.result ≡ pass_to w samples (i + 1) =
    rw (add-one i) (simp (← c.loop-x.invariant.0, ← c.sample-s.ensures, c.next-pass.ensures.is)) in
    new ∙ sym (found_stays w samples (i + 1) (length samples) (omega arith) (rw (← new) found))
