-- Why a plan moved, as it can be told once the step is done: from the parent's new state, the plan's own abort, and its old and new state.
-- That this is the cause on the line of the list which gave the state is proved (`line_told` in proofs/Causes). Assumes nothing.
use Rattle.std.specs.Prelude.{ℕ, Bool, cond, not, ◌&&◌, ◌||◌, List}
use Rattle.rules.specs.Lists.{map_below}
use Rattle.rules.specs.States.{cause_code, state_at, is, in_execution}
use Rattle.rules.specs.Table.{entry}
use Rattle.rules.specs.Words.{word, holds}
use Rattle.rules.specs.declared.Cause.{Cause}
use Rattle.rules.specs.declared.Cause.TheVariants.{Unmoved, Ordered, OwnCondition, ChildrenLost, Forced}
use Rattle.rules.specs.declared.Condition.TheVariants.{Abort}
use Rattle.rules.specs.declared.PlanState.{PlanState}
use Rattle.rules.specs.declared.PlanState.TheVariants.{Considered, Ready, Suspended, Aborted}
use Rattle.moves.specs.Parents.{parent_state}

-- of a plan that moved
abbrev pub cause_of_move : PlanState → Bool → PlanState → PlanState → Cause
cause_of_move parent aborts was state =
    cond (not (in_execution parent) || is Suspended parent && is Suspended state) Forced
    (cond (is Considered state || is Ready was) Ordered (cond (is Aborted state && not aborts) ChildrenLost OwnCondition))

-- of any plan
abbrev pub cause_told_by : PlanState → Bool → PlanState → PlanState → Cause
cause_told_by parent aborts was state = cond (is was state) Unmoved (cause_of_move parent aborts was state)

-- of plan p, where the states s became `new` under the words w
unfoldable pub cause_told : List ℕ → List ℕ → List ℕ → List ℕ → ℕ → Cause
cause_told t s w new p = cause_told_by (parent_state t new p) (holds Abort (entry t p) (word w p)) (state_at s p) (state_at new p)

-- of the first n plans
unfoldable pub causes_told : List ℕ → List ℕ → List ℕ → List ℕ → ℕ → List ℕ
unfolding map_below cause_told
causes_told t s w new n = map_below (λ p. cause_code (cause_told t s w new p)) n
