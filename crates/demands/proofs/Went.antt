-- Each plan of a step moves as the table of moves says: the root under an Activated parent, any other plan under its own. Assumes
-- nothing.
use Prim.Native.Nat.{ℕ, zero, suc, ◌<◌}
use mathlib.Core.List.{List}
use Rattle.rules.specs.States.{state_at}
use Rattle.rules.specs.Table.{plan_count, parent, entry}
use Rattle.rules.specs.Words.{word}
use Rattle.rules.specs.Step.{root_orders, too_many_lost, children_complete, move_of}
use Rattle.rules.specs.Demands.{SubPlan}
use Rattle.rules.specs.declared.Orders.{Orders}
use Rattle.rules.specs.declared.PlanState.{PlanState}
use Rattle.rules.specs.declared.PlanState.TheVariants.{Activated}
use Rattle.rules.proofs.Tree.{Tree}
use Rattle.demands.proofs.Children.{sub_plan}
use Rattle.demands.proofs.Moves.{Moved, move_moved}
use Rattle.demands.proofs.Step.{told, next, next_root, next_child}

module _ (rule : ℕ) (t s w : List ℕ) (choice : ℕ → ℕ) where
  as_told : (parent : PlanState) (o : Orders) (p : ℕ) → Moved parent o (state_at s p) (move_of rule t s w choice parent o p)
  as_told parent o p = move_moved o (entry t p) (word w p) (too_many_lost t s rule p) (children_complete t s p) parent (state_at s p)

  pub root_moved : Moved Activated root_orders (state_at s 0) (next rule t s w choice 0)
  root_moved = rw (next_root rule t s w choice) (as_told Activated root_orders 0)

  pub child_moved :
      Tree t → (q p : ℕ) → SubPlan t q p
      → let now = next rule t s w choice q in Moved now (told t s w choice now q p) (state_at s p) (next rule t s w choice p)
  child_moved tree q p c =
      let now = next rule t s w choice q in
      rw (next_child rule t s w choice tree q p c) (as_told now (told t s w choice now q p) p)

  -- any plan moves under some parent
  pub record SomeMove (p : ℕ) : Type 0 where
    pub above : PlanState
    pub orders : Orders
    pub moved : Moved above orders (state_at s p) (next rule t s w choice p)

  pub plan_moved : Tree t → (p : ℕ) → p < plan_count t → SomeMove p
  plan_moved tree zero l = record { above = Activated; orders = root_orders; moved = root_moved }
  plan_moved tree (suc k) l =
      let q : ℕ = parent t (suc k) in
      record { above = next rule t s w choice q; orders = _; moved = child_moved tree q (suc k) (sub_plan t k l) }
