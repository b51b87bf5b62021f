-- What `lowest_bad_state` keeps: the plans passed break no rule, and what counts of them is marked at their parents.
use Rattle.lent.proofs.Marks.{Marking}
use Rattle.lent.proofs.lowest_bad_state.Given as goal

abbrev pub invariant-loop-p : goal.invariant-loop-p
invariant-loop-p l = Marking l.table l.states l.n l.p l.alone l.shut
