-- What is known in and after the checks of a call. Assumes nothing.
use Rattle.std.specs.Prelude.{ℕ, ◌+◌, ◌*◌, ◌≤◌, ◌<◌, ◌≡◌, List, length}
use Rattle.rules.specs.Bytes.{byte_at}
use Rattle.rules.specs.Table.{plan_count, children}
use Rattle.rules.specs.Answers.{table_check, call_check, Outcome, Done}
use Rattle.children.specs.Sets.{Rooted}
use Rattle.table.specs.Facts.{Facts, Prepared}
use Rattle.demands.specs.PassesStates.{PassesStates}

-- a table of n plans: a tree whose plans have states
pub record Planned (t : List ℕ) (n : ℕ) (s : List ℕ) : Type 0 where
  pub rooted : Rooted t n
  pub whole : n ≡ plan_count t
  pub some : 0 < n
  pub states_room : n ≤ length s

-- the n plans' numbers of children, and words for all of them
pub record Counted (t : List ℕ) (n : ℕ) (counts w : List ℕ) : Type 0 where
  pub whole : n ≡ plan_count t
  pub small : n ≤ 256
  pub room : 8 + 8 * n ≤ length t
  pub counts_room : n ≤ length counts
  pub words_room : 4 * n ≤ length w
  pub counted : (q : ℕ) → q < n → byte_at counts q ≡ length (children t q)

-- a table that passes, with its numbers of children
pub record Tabled (t counts : List ℕ) : Type 0 where
  pub done : table_check t ≡ Done
  pub room : plan_count t ≤ length counts
  pub counted : (q : ℕ) → q < plan_count t → byte_at counts q ≡ length (children t q)

-- a call by a rule has been checked, with this outcome; where it passes the table's facts are known
pub record Called (rule : ℕ) (t s w c ranks counts names : List ℕ) (outcome : Outcome) : Type 0 where
  pub is : outcome ≡ call_check rule t s w c
  pub facts : outcome ≡ Done → Facts t ranks counts names

-- a table, its facts, states that pass and words of the right length: the plans may move
pub record MayMove (t s w ranks names : List ℕ) : Type 0 where
  pub prepared : Prepared t ranks names
  pub passes : PassesStates t s
  pub words : length w ≡ 4 * plan_count t
