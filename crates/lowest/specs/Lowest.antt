-- The answer of a search for the lowest number that passes a test. Assumes nothing.
use Rattle.std.specs.Prelude.{ℕ, ◌<◌, ◌≡◌, Bool, true, false, Option, Some, None}

-- the answer is the lowest number below n that passes the test, and none where none does
abbrev pub Lowest : (ℕ → Bool) → ℕ → Option ℕ → Type 0
Lowest f n None = (k : ℕ) → k < n → f k ≡ false
Lowest f n (Some r) = (r < n) × (f r ≡ true) × ((k : ℕ) → k < r → f k ≡ false)
