-- What is known before the plans move: the table's facts, the words of the old states, and picks. Assumes nothing.
use Rattle.std.specs.Prelude.{ℕ, ◌+◌, ◌*◌, ◌≤◌, ◌<◌, ◌≡◌, List, length, get_or}
use Rattle.rules.specs.Bytes.{byte_at}
use Rattle.rules.specs.Table.{plan_count, parent, entry, named, rank}
use Rattle.children.specs.Sets.{set_of}
use Rattle.formulas.specs.Asked.{number_asked, Waiting, WaitKnown}
use Rattle.family.specs.ChildWords.{HasWords, ChildWords}

-- the picks that a list holds, a byte for each plan
abbrev pub picks_of : List ℕ → ℕ → ℕ
picks_of picks q = byte_at picks q

-- of a table that passes its checks: the plans' places, parents and ranks, the words of their children in the states s, and for each
-- plan a pick, below 64 as a child's rank is
pub record StepFacts (t s ranks sets picks : List ℕ) : Type 0 where
  pub some : 0 < plan_count t
  pub small : plan_count t ≤ 256
  pub long : 8 + 8 * plan_count t ≤ length t
  pub states_room : plan_count t ≤ length s
  pub ranks_room : plan_count t ≤ length ranks
  pub sets_room : plan_count t * 9 ≤ length sets
  pub picks_room : plan_count t ≤ length picks
  pub down : (p : ℕ) → 0 < p → p < plan_count t → parent t p < p
  pub ranked : (p : ℕ) → p < plan_count t → byte_at ranks p ≡ rank t p
  pub children : (q : ℕ) → q < plan_count t → ChildWords t s q sets
  pub picks_small : (q : ℕ) → q < plan_count t → picks_of picks q < 64

-- for each plan the word of its named children
pub record NamedWords (t names : List ℕ) : Type 0 where
  pub room : plan_count t ≤ length names
  pub collected : (q : ℕ) → q < plan_count t → get_or names q 0 ≡ set_of t q (λ c. named (entry t c))

-- behind these words, how many of its named children each plan waits for
pub record Names (t names : List ℕ) : Type 0 where
  pub waiting : Waiting t (plan_count t)
  pub room : plan_count t + plan_count t ≤ length names
  pub words : NamedWords t names
  pub numbers : (q : ℕ) → q < plan_count t → get_or names (plan_count t + q) 0 ≡ number_asked t q

-- plan p's entry, what it waits for and the words of its children by state have their place
pub record OwnChildren (t : List ℕ) (n : ℕ) (names sets : List ℕ) (p : ℕ) : Type 0 where
  pub entry_room : 8 * p + 16 ≤ length t
  pub waits : WaitKnown t n names p
  pub has_words : HasWords sets p
