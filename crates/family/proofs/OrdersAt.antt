-- How a child's orders come from what is known of its parent. Assumes nothing.
use Prim.Native.Nat.{ℕ, zero, suc, ◌<◌}
use native.Mathlib.Omega.{arith}
use mathlib.Core.Path.{◌≡◌, refl}
use mathlib.Core.Bool.{true, false, ◌&&◌}
use mathlib.Core.List.{List}
use lib.Dec.{eqb_refl}
use Rattle.rules.specs.States.{state_at, is}
use Rattle.rules.specs.Table.{plan_count, parent}
use Rattle.rules.specs.Words.{word}
use Rattle.rules.specs.Demands.{SubPlan}
use Rattle.rules.specs.Step.{orders, none, orders_if}
use Rattle.rules.specs.declared.PlanState.{PlanState}
use Rattle.rules.specs.declared.PlanState.TheVariants.{Activated}
use Rattle.family.specs.OrdersAt.{orders_at}

pub child_of : (t : List ℕ) (q p : ℕ) → 0 < p → p < plan_count t → q ≡ parent t p → SubPlan t q p
child_of t q zero h l e = absurd (omega arith)
child_of t q (suc p) h l e = record { within = l; child = rw e (eqb_refl (parent t (suc p))) }

module _ (t s w : List ℕ) (choice : ℕ → ℕ) where
  -- orders, given whether the parent was and stays Activated
  module _ (before after : PlanState) (q p : ℕ) where
    pub orders_given :
        (is Activated before && is Activated after) ≡ true → orders_if t s w choice before after q p ≡ orders t s (word w q) choice q p
    orders_given e = rw e

    pub orders_none : (is Activated before && is Activated after) ≡ false → orders_if t s w choice before after q p ≡ none
    orders_none e = rw e

  -- the orders of a child, from what the code has in hand
  pub child_orders :
      (before after : PlanState) (q p : ℕ) → 0 < p → q ≡ parent t p → before ≡ state_at s q
      → orders_if t s w choice before after q p ≡ orders_at t s w choice after p
  child_orders before after q zero h e b = absurd (omega arith)
  child_orders before after q (suc p) h e b = rw (b, e) refl
