-- What is known before one plan moves, and before it is told why it did. Assumes nothing.
use Rattle.std.specs.Prelude.{ℕ, ◌+◌, ◌*◌, ◌≤◌, ◌<◌, List, length}
use Rattle.rules.specs.Table.{plan_count, parent}
use Rattle.family.specs.StepFacts.{StepFacts, NamedWords, OwnChildren}

-- plan p's entry and word have their place
pub record OwnBytes (t w : List ℕ) (p : ℕ) : Type 0 where
  pub entry_room : 8 * p + 16 ≤ length t
  pub word_room : 4 * p + 4 ≤ length w

-- all that the move of plan p reads, where `new` has the new states of the plans before it
pub record MoveFacts (t : List ℕ) (n : ℕ) (s ranks names sets picks w new : List ℕ) (p : ℕ) : Type 0 where
  pub facts : StepFacts t s ranks sets picks
  pub named : NamedWords t names
  pub within : p < plan_count t
  pub own : OwnBytes t w p
  pub children : OwnChildren t n names sets p
  pub parent_room : 0 < p → parent t p < length new

-- all that is read to tell why plan p moved from the states s to `new`
pub record CauseFacts (t s w new : List ℕ) (p : ℕ) : Type 0 where
  pub own : OwnBytes t w p
  pub old_room : p < length s
  pub new_room : p < length new
  pub parent_room : 0 < p → parent t p < length new
