-- The work space of a step: its room. Assumes nothing.
use Rattle.std.specs.Prelude.{ℕ, ◌*◌, ◌≤◌, List, length}
use Rattle.children.specs.Sets.{Empty}

-- room for a step of n plans, where the words of children are 0
pub record StepRoom (n : ℕ) (sets picks new : List ℕ) : Type 0 where
  pub sets_room : n * 9 ≤ length sets
  pub picks_room : n ≤ length picks
  pub new_room : n ≤ length new
  pub empty : Empty (n * 9) sets
