-- Why a run rests: a number for each plan that never rises and falls whenever the plan moves. Nobody has to believe this. Assumes nothing.
use Prim.Native.Nat.{ℕ, zero, suc, ◌+◌}
use Rattle.std.specs.Prelude.{Bool, false, cond, not, ◌&&◌, ◌||◌, List}
use Rattle.rules.specs.States.{is}
use Rattle.rules.specs.Table.{parent, entry}
use Rattle.rules.specs.Words.{word, holds}
use Rattle.rules.specs.declared.Condition.TheVariants.{Reactivate}
use Rattle.rules.specs.declared.PlanState.{PlanState}
use Rattle.rules.specs.declared.PlanState.TheVariants.{
  Inactive,
  Considered,
  Possible,
  Ready,
  Activated,
  Suspended,
  Completed,
  Aborted,
  Rejected,
}

-- at most so many moves are left to a plan in this state. A Suspended plan that is stuck only ends; another may be Activated once more, and
-- then be stuck
abbrev pub moves_left : Bool → PlanState → ℕ
moves_left stuck Inactive = 6
moves_left stuck Considered = 5
moves_left stuck Possible = 4
moves_left stuck Ready = 3
moves_left stuck Activated = 2
moves_left stuck Suspended = cond stuck 1 3
moves_left stuck Completed = 0
moves_left stuck Aborted = 0
moves_left stuck Rejected = 0

-- The states of all plans, as a function.
module _ (t w : List ℕ) (st : ℕ → PlanState) where
  -- plan p is stuck: it is Suspended, and its reactivate does not hold or its parent is stuck. `fuel` is any number above p, since parents
  -- come first
  unfoldable pub stuck_within : ℕ → ℕ → Bool
  stuck_within zero p = false
  stuck_within (suc fuel) zero = is Suspended (st 0) && not (holds Reactivate (entry t 0) (word w 0))
  stuck_within (suc fuel) (suc k) =
      is Suspended (st (suc k))
      && (not (holds Reactivate (entry t (suc k)) (word w (suc k))) || stuck_within fuel (parent t (suc k)))

  abbrev pub stuck : ℕ → Bool
  stuck p = stuck_within (suc p) p

  -- the moves left to the first k plans
  unfoldable pub all_left : ℕ → ℕ
  unfolding stuck_within
  all_left zero = 0
  all_left (suc k) = all_left k + moves_left (stuck k) (st k)
