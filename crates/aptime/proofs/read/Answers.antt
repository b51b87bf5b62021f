-- `read` meets its contract: a line that is wrong ends it. Assumes nothing.
use Rattle.std.proofs.Common.{sym, ◌∙◌}
use Rattle.aptime.specs.Lines.{lines}
use Rattle.aptime.proofs.Turns.{stops}
use Rattle.aptime.proofs.read.Goals as goal

pub returns-in-Err : goal.returns-in-Err
returns-in-Err c =
    let l = c.loop-text in
    sym l.invariant.so_far
    ∙ stops l.line l.told l.samples.items (lines l.rest.now) c.in-Some.text.now (lines c.in-Some.tail.now) c.in-Some.ensures.lines c.in-Err.fault
    c.in-Err.ensures.took
