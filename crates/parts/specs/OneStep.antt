-- One step of a record: where it lies, a wrong word in it, and the picks that explain what it shows. Assumes nothing.
use Rattle.std.specs.Prelude.{ℕ, ◌+◌, ◌*◌, ◌≤◌, ◌<◌, ◌≡◌, Bool, List, eqb, length, get_or}
use Rattle.rules.specs.Table.{plan_count, entry, body_of}
use Rattle.rules.specs.Words.{word, pick_of}
use Rattle.children.specs.Sets.{Rooted, Narrow}
use Rattle.family.specs.StepFacts.{picks_of}
use Rattle.lent.specs.WordBits.{unused_bits, wrong_bits}
use Rattle.demands.specs.Witness.{witness}

-- step i of a record r of n plans lies in it
abbrev pub Lies : List ℕ → ℕ → ℕ → Type 0
Lies r n i = 8 + i * (5 * n) + 5 * n ≤ length r

-- for each of the first n plans the bits that its words may not have, but for the pick's
pub record Unused (t : List ℕ) (n : ℕ) (unused : List ℕ) : Type 0 where
  pub room : n ≤ length unused
  pub bits : (p : ℕ) → p < n → get_or unused p 0 ≡ unused_bits (body_of (entry t p))

-- 12 of plan p's word in a record, by these bits
abbrev pub wrong_at : List ℕ → List ℕ → ℕ → Bool
wrong_at unused w p = wrong_bits (get_or unused p 0) (eqb (pick_of (word w p)) 0) (word w p)

-- the picks of the plans are the witness: those that explain the states shown if any do
pub record Witnessed (t s shown picks : List ℕ) : Type 0 where
  pub pick : (q : ℕ) → q < plan_count t → picks_of picks q ≡ witness t s shown q

-- a table's n plans, their parents and ranks
pub record Ordered (t : List ℕ) (n : ℕ) (ranks : List ℕ) : Type 0 where
  pub whole : n ≡ plan_count t
  pub rooted : Rooted t n
  pub narrow : Narrow t n ranks
  pub ranks_room : n ≤ length ranks
