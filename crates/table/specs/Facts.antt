-- What check 6 finds, what checks 22 and 9 answer, a table's facts and the room for them, and where a sub tree ends. Assumes nothing.
use Rattle.std.specs.Prelude.{ℕ, ◌+◌, ◌*◌, ◌≤◌, ◌<◌, ◌≡◌, Bool, cond, ◌&&◌, List, length, get_or, ltb, Option, None}
use Rattle.rules.specs.Bytes.{byte_at}
use Rattle.rules.specs.Lists.{least}
use Rattle.rules.specs.Table.{plan_count, parent, entry, named, children, rank}
use Rattle.rules.specs.WaitFor.{first_version, table_size}
use Rattle.rules.specs.Answers.{◌and_then◌, refuse_at, bad_parent, formulas_check, bad_wait, header_check, table_check, Outcome, Done}
use Rattle.children.specs.Sets.{set_of, Rooted, Ranked, Narrow}
use Rattle.formulas.specs.Asked.{number_asked}
use Rattle.lowest.specs.Lowest.{Lowest}
use Rattle.rules.specs.declared.Refusal.{Refusal}

-- a table has room for n plans, 1 to 256
abbrev pub HasPlans : List ℕ → ℕ → Type 0
HasPlans t n = (0 < n) × (n ≤ 256) × (8 + 8 * n ≤ length t)

-- check 6 finds r: the lowest bad plan, or none, and then the first n plans have earlier parents, known ranks below 64, and known numbers of
-- children
pub record Shaped (t : List ℕ) (n : ℕ) (ranks counts : List ℕ) (r : Option ℕ) : Type 0 where
  pub lowest : Lowest (bad_parent t) n r
  pub rooted : r ≡ None → Rooted t n
  pub ranked : r ≡ None → Ranked t n ranks counts
  pub narrow : r ≡ None → Narrow t n ranks

-- what follows check 8: 22, and 9
abbrev pub waits_check : List ℕ → Outcome
waits_check t = cond (first_version t) Done (formulas_check t) and_then refuse_at Refusal.Wait (least (bad_wait t) (plan_count t))

-- the n plans' numbers of children and words of named children
pub record Known (t : List ℕ) (n : ℕ) (counts names : List ℕ) : Type 0 where
  pub whole : n ≡ plan_count t
  pub small : n ≤ 256
  pub some : 0 < n
  pub long : length t ≡ table_size t
  pub counts_room : n ≤ length counts
  pub names_room : n ≤ length names
  pub counted : (q : ℕ) → q < n → byte_at counts q ≡ length (children t q)
  pub collected : (q : ℕ) → q < n → get_or names q 0 ≡ set_of t q (λ c. named (entry t c))

-- a buffer has room for k numbers a plan, where the header passes: plans are never more than 256
abbrev pub RoomFor : List ℕ → ℕ → List ℕ → Type 0
RoomFor t k buffer = header_check t ≡ Done → plan_count t * k ≤ length buffer

-- room for a table's facts: two words a plan for its named children and how many of them it waits for
pub record FactsRoom (t ranks counts names : List ℕ) : Type 0 where
  pub ranks_room : RoomFor t 1 ranks
  pub counts_room : RoomFor t 1 counts
  pub names_room : RoomFor t 2 names

-- what a table that passes gives to those above: its plans' parents, ranks, numbers of children, named children, and how many of these
-- they wait for
pub record Facts (t ranks counts names : List ℕ) : Type 0 where
  pub some : 0 < plan_count t
  pub small : plan_count t ≤ 256
  pub long : 8 + 8 * plan_count t ≤ length t
  pub down : (p : ℕ) → 0 < p → p < plan_count t → parent t p < p
  pub narrow : (p : ℕ) → p < plan_count t → rank t p < 64
  pub ranked : (p : ℕ) → p < plan_count t → byte_at ranks p ≡ rank t p
  pub counted : (q : ℕ) → q < plan_count t → byte_at counts q ≡ length (children t q)
  pub collected : (q : ℕ) → q < plan_count t → get_or names q 0 ≡ set_of t q (λ c. named (entry t c))
  pub numbers : (q : ℕ) → q < plan_count t → get_or names (plan_count t + q) 0 ≡ number_asked t q

-- a table has been checked, with this outcome and these facts
pub record Checked (t ranks counts names : List ℕ) (outcome : Outcome) : Type 0 where
  pub is : outcome ≡ table_check t
  pub facts : outcome ≡ Done → Facts t ranks counts names

-- a table that passes, with its plans' ranks, named children and numbers waited for at hand
pub record Prepared (t ranks names : List ℕ) : Type 0 where
  pub done : table_check t ≡ Done
  pub ranks_room : plan_count t ≤ length ranks
  pub names_room : plan_count t + plan_count t ≤ length names
  pub ranked : (p : ℕ) → p < plan_count t → byte_at ranks p ≡ rank t p
  pub collected : (q : ℕ) → q < plan_count t → get_or names q 0 ≡ set_of t q (λ c. named (entry t c))
  pub numbers : (q : ℕ) → q < plan_count t → get_or names (plan_count t + q) 0 ≡ number_asked t q

-- plan i stands behind the given plan, and its parent before it
abbrev pub outside : List ℕ → ℕ → ℕ → Bool
outside t plan i = ltb plan i && ltb (parent t i) plan
