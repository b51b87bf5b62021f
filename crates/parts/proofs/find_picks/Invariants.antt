-- The loop of `find_picks`: the picks that the plans below p make of their parents.
use Rattle.parts.proofs.Picks.{Finding}
use Rattle.parts.proofs.find_picks.Given as goal

abbrev pub invariant-loop-p : goal.invariant-loop-p
invariant-loop-p l = Finding l.table l.old l.shown l.n l.initial.picks l.initial.kept l.p l.picks l.kept
