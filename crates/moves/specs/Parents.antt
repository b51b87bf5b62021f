-- What a plan reads of its parent beside its orders: the state. Assumes nothing.
use Rattle.std.specs.Prelude.{ℕ, zero, suc, List}
use Rattle.rules.specs.States.{state_at}
use Rattle.rules.specs.Table.{parent}
use Rattle.rules.specs.declared.PlanState.{PlanState}
use Rattle.rules.specs.declared.PlanState.TheVariants.{Activated}

-- the state of plan p's parent among states: the root acts as if under a parent that stays Activated
abbrev pub parent_state : List ℕ → List ℕ → ℕ → PlanState
parent_state t states zero = Activated
parent_state t states (suc k) = state_at states (parent t (suc k))
