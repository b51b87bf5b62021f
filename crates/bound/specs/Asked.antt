-- What is known once the question has passed its checks, and one test for both premises. Nobody has to believe this. Assumes nothing.
use Rattle.std.specs.Prelude.{ℕ, ◌+◌, ◌*◌, ◌≤◌, Bool, ◌||◌, ◌≡◌, List, length}
use Rattle.rules.specs.Table.{plan_count, entry, retry_aborted}
use Rattle.demands.specs.Bound.{both_hold}

-- the entries and words of n plans are there
pub record Asked (t : List ℕ) (n : ℕ) (w : List ℕ) : Type 0 where
  pub whole : n ≡ plan_count t
  pub small : n ≤ 256
  pub room : 8 + 8 * n ≤ length t
  pub words_room : 4 * n ≤ length w

-- plan p breaks a premise
abbrev pub breaks_premise : List ℕ → List ℕ → ℕ → Bool
breaks_premise t w p = retry_aborted (entry t p) || both_hold t w p
