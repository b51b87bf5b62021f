-- What the workers of this crate require of a table: that its plans, or its nodes, lie in it. Nobody has to believe this. Assumes nothing.
use Rattle.std.specs.Prelude.{ℕ, ◌+◌, ◌*◌, ◌≤◌, ◌≡◌, List, length}
use Rattle.rules.specs.Table.{plan_count}
use Rattle.rules.specs.WaitFor.{node_count}

-- the n plans that the header tells lie in the table
pub record HasPlans (t : List ℕ) (n : ℕ) : Type 0 where
  pub whole : n ≡ plan_count t
  pub small : n ≤ 256
  pub room : 8 + 8 * n ≤ length t

-- the k nodes too
pub record HasNodes (t : List ℕ) (k : ℕ) : Type 0 where
  pub all : k ≡ node_count t
  pub room : 10 + 8 * plan_count t + 4 * k ≤ length t
