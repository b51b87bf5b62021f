-- The loop of `survey`: each word has the children below p that are in its state.
use Rattle.children.proofs.Kin.{Surveying}
use Rattle.children.proofs.survey.Given as goal

abbrev pub invariant-loop-p : goal.invariant-loop-p
invariant-loop-p l = Surveying l.table l.states l.n l.initial.sets l.p l.sets
