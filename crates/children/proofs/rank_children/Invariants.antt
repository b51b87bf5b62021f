-- The loop of `rank_children`: what the plans below p make of the ranks and counts.
use Rattle.children.proofs.Kin.{Ranking}
use Rattle.children.proofs.rank_children.Given as goal

abbrev pub invariant-loop-p : goal.invariant-loop-p
invariant-loop-p l = Ranking l.table l.n l.initial.ranks l.initial.counts l.p l.ranks l.counts
