-- Picks that are taken from words. Assumes nothing.
use Rattle.std.specs.Prelude.{ℕ, ◌<◌, ◌≡◌, List}
use Rattle.rules.specs.Words.{word, pick_of}
use Rattle.family.specs.StepFacts.{picks_of}

-- the picks of the first n plans are those of their words
pub record Taken (w : List ℕ) (n : ℕ) (picks : List ℕ) : Type 0 where
  pub taken : (q : ℕ) → q < n → picks_of picks q ≡ pick_of (word w q)
