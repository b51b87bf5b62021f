-- What a plan is ordered, the root too. Assumes nothing.
use Rattle.std.specs.Prelude.{ℕ, zero, suc, List}
use Rattle.rules.specs.States.{state_at}
use Rattle.rules.specs.Table.{parent}
use Rattle.rules.specs.Step.{root_orders, orders_if}
use Rattle.rules.specs.declared.Orders.{Orders}
use Rattle.rules.specs.declared.PlanState.{PlanState}

-- what plan p is ordered, given its parent's new state
abbrev pub orders_at : List ℕ → List ℕ → List ℕ → (ℕ → ℕ) → PlanState → ℕ → Orders
orders_at t s w choice after zero = root_orders
orders_at t s w choice after (suc k) =
    orders_if t s w choice (state_at s (parent t (suc k))) after (parent t (suc k)) (suc k)
