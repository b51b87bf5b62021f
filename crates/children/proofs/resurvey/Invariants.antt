-- The loop of `resurvey`: each word has the children below p by their new states and the others by their old ones.
use Rattle.children.proofs.Changes.{Resurveying}
use Rattle.children.proofs.resurvey.Given as goal

abbrev pub invariant-loop-p : goal.invariant-loop-p
invariant-loop-p l = Resurveying l.table l.old l.new l.n l.initial.sets l.p l.sets
