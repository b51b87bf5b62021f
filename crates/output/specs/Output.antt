-- Bytes that are put into a slice, piece by piece. Assumes nothing.
use Rattle.std.specs.Prelude.{ℕ, ◌+◌, ◌≤◌, ◌≡◌, List, ◌++◌, length, take, drop}

-- a piece is put behind the first `at` bytes of a slice: what the slice holds after that up to the new end; past it all stays as it was
pub record Appended (before : List ℕ) (at : ℕ) (piece after : List ℕ) (end : ℕ) : Type 0 where
  pub place : end ≡ at + length piece
  pub bytes : take end after ≡ take at before ++ piece
  pub rest : drop end after ≡ drop end before

-- a piece of at most so many bytes is put there
abbrev pub Put : ℕ → List ℕ → ℕ → List ℕ → List ℕ → ℕ → Type 0
Put most before at piece after end = (end ≤ at + most) × Appended before at piece after end
