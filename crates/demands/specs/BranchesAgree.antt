-- What a step asks of words that have passed check 12: where one says that if-then-else's condition is satisfied, it says that it still can
-- be. Nobody has to believe this. Assumes nothing.
use Rattle.std.specs.Prelude.{ℕ, ◌<◌, List, T}
use Rattle.rules.specs.Table.{plan_count}
use Rattle.rules.specs.Words.{word, if_satisfied, if_satisfiable}

abbrev pub BranchesAgree : List ℕ → List ℕ → Type 0
BranchesAgree t w = (q : ℕ) → q < plan_count t → T (if_satisfied (word w q)) → T (if_satisfiable (word w q))
