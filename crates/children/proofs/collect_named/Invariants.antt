-- The loop of `collect_named`: each word has the children below p.
use Rattle.rules.specs.Table.{entry, named}
use Rattle.children.proofs.Kin.{Collecting}
use Rattle.children.proofs.collect_named.Given as goal

abbrev pub invariant-loop-p : goal.invariant-loop-p
invariant-loop-p l = Collecting l.table l.n (λ c. named (entry l.table c)) l.initial.words l.p l.words
