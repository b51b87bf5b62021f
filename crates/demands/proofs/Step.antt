-- Laws of a step: the new state of each plan, and where the step's list shows it. Assumes nothing.
use Prim.Native.Nat.{ℕ, zero, suc, ◌≤◌, ◌<◌}
use native.Mathlib.Omega.{arith}
use mathlib.Core.Path.{◌≡◌, refl, sym, ◌∙◌, ap}
use mathlib.Core.Logic.{◌⊎◌, inl, inr}
use mathlib.Core.List.{List, []}
use lib.ListN.{get_or, length, take, length-append, get_or-append}
use lib.Seq.{get_or_at, get_or-take, take_all, take-append-le}
use Rattle.rules.specs.Bytes.{byte_at}
use Rattle.rules.specs.States.{code, state_of, state_at}
use Rattle.rules.specs.Table.{plan_count, parent}
use Rattle.rules.specs.Demands.{SubPlan}
use Rattle.rules.specs.Step.{root_orders, move_of, orders_if, new_state, step_first, step_by}
use Rattle.rules.specs.declared.Orders.{Orders}
use Rattle.rules.specs.declared.PlanState.{PlanState}
use Rattle.rules.specs.declared.PlanState.TheVariants.{Activated}
use Rattle.rules.proofs.Tree.{Tree}
use Rattle.demands.proofs.Numbers.{last_or}
use Rattle.demands.proofs.Children.{parent_is, after_parent}
use Rattle.demands.proofs.States.{state_of_code}

-- lists with the same first k bytes have the same bytes and states there
module _ (k : ℕ) (l m : List ℕ) (same : take k l ≡ take k m) (p : ℕ) (h : p < k) where
  pub same_byte : byte_at l p ≡ byte_at m p
  same_byte = sym (get_or-take k l p 0 h) ∙ ap (λ (z : List ℕ). get_or z p 0) same ∙ get_or-take k m p 0 h

  pub same_state : state_at l p ≡ state_at m p
  unfolding state_at
  same_state = ap state_of same_byte

-- what plan q, whose new state is `now`, tells its child p
abbrev pub told : List ℕ → List ℕ → List ℕ → (ℕ → ℕ) → PlanState → ℕ → ℕ → Orders
told t s w choice now q p = orders_if t s w choice (state_at s q) now q p

module _ (rule : ℕ) (t s w : List ℕ) (choice : ℕ → ℕ) where
  -- and how that moves it
  abbrev pub move_under : PlanState → ℕ → ℕ → PlanState
  move_under now q p = move_of rule t s w choice now (told t s w choice now q p) p

  -- the new state of plan p
  unfoldable pub next : ℕ → PlanState
  next p = new_state rule t s w choice (step_first rule t s w choice p) p

  pub length_first : (k : ℕ) → length (step_first rule t s w choice k) ≡ k
  unfolding step_first
  length_first zero = refl
  length_first (suc k) = let h = length_first k in simp length-append (omega arith)

  pub take_first : (k j : ℕ) → j ≤ k → take j (step_first rule t s w choice k) ≡ step_first rule t s w choice j
  unfolding step_first
  take_first zero zero h = refl
  take_first zero (suc j) h = absurd (omega arith)
  take_first (suc k) j h = go (last_or j (suc k) (omega arith)) (take_first k j)
    where
      go :
          (j ≡ suc k) ⊎ (j < suc k) → (j ≤ k → take j (step_first rule t s w choice k) ≡ step_first rule t s w choice j)
          → take j (step_first rule t s w choice (suc k)) ≡ step_first rule t s w choice j
      go (inl e) ih = let z = length_first (suc k) in rw e (take_all (suc k) (step_first rule t s w choice (suc k)) (omega arith))
      go (inr l) ih =
          let z = length_first k in
          let y : j ≤ length (step_first rule t s w choice k) = omega arith in
          rw take-append-le (ih (omega arith))

  pub byte_first : (k p : ℕ) → p < k → byte_at (step_first rule t s w choice k) p ≡ code (next p)
  unfolding step_first next
  byte_first zero p h = absurd (omega arith)
  byte_first (suc k) p h = go (last_or p k h) (byte_first k p)
    where
      go :
          (p ≡ k) ⊎ (p < k) → (p < k → byte_at (step_first rule t s w choice k) p ≡ code (next p))
          → byte_at (step_first rule t s w choice (suc k)) p ≡ code (next p)
      go (inl e) ih = rw e (get_or_at (step_first rule t s w choice k) _ [] 0 k (length_first k))
      go (inr l) ih = get_or-append (step_first rule t s w choice k) _ 0 p (rw length_first l) ∙ ih l

  pub state_first : (k p : ℕ) → p < k → state_at (step_first rule t s w choice k) p ≡ next p
  unfolding state_at
  state_first k p h = ap state_of (byte_first k p h) ∙ state_of_code (next p)

  -- the same of the whole step
  pub length_step : length (step_by rule t s w choice) ≡ plan_count t
  unfolding step_by
  length_step = length_first (plan_count t)

  pub byte_step : (p : ℕ) → p < plan_count t → byte_at (step_by rule t s w choice) p ≡ code (next p)
  unfolding step_by
  byte_step = byte_first (plan_count t)

  pub state_step : (p : ℕ) → p < plan_count t → state_at (step_by rule t s w choice) p ≡ next p
  unfolding step_by
  state_step = state_first (plan_count t)

  -- how each plan moves
  pub next_root : next 0 ≡ move_of rule t s w choice Activated root_orders 0
  unfolding next
  next_root = refl

  next_below : (p : ℕ) → 0 < p → parent t p < p → next p ≡ move_under (next (parent t p)) (parent t p) p
  unfolding next
  next_below zero z h = absurd (omega arith)
  next_below (suc k) z h =
      let q : ℕ = parent t (suc k) in
      ap (λ (now : PlanState). move_under now q (suc k)) (state_first (suc k) q h)

  pub next_child : Tree t → (q p : ℕ) → SubPlan t q p → next p ≡ move_under (next q) q p
  next_child tree q p c =
      let l = after_parent t tree q p c in
      let e = parent_is t q p c.child in
      rw (← e) (next_below p (omega arith) (omega arith))
