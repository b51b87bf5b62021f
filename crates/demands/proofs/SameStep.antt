-- Two choices move the first k plans alike if they agree wherever an any-order plan may choose among Ready children. Assumes
-- nothing.
use Prim.Native.Nat.{ℕ, zero, suc, ◌≤◌, ◌<◌}
use native.Mathlib.Omega.{arith}
use mathlib.Core.Path.{◌≡◌, refl, sym, ◌∙◌, ap}
use mathlib.Core.Logic.{◌⊎◌, inl, inr}
use mathlib.Core.List.{List}
use lib.ListN.{take}
use lib.Seq.{ext_get_or}
use lib.Dec.{eqb}
use Rattle.rules.specs.Bytes.{byte_at}
use Rattle.rules.specs.States.{code, state_at}
use Rattle.rules.specs.Table.{plan_count, parent}
use Rattle.rules.specs.Step.{step_first, step_by}
use Rattle.rules.specs.Demands.{SubPlan}
use Rattle.rules.specs.declared.PlanState.TheVariants.{Ready}
use Rattle.rules.proofs.Tree.{Tree}
use Rattle.demands.proofs.Numbers.{last_or}
use Rattle.demands.proofs.Children.{sub_plan}
use Rattle.demands.proofs.Step.{next, length_first, take_first, byte_first, next_root, next_child}
use Rattle.demands.proofs.Orders.{Chooses, same_move}

module _ (rule : ℕ) (t s w : List ℕ) (tree : Tree t) (choice other : ℕ → ℕ) (k : ℕ) (within : k ≤ plan_count t)
    (agree :
    (q p : ℕ) → SubPlan t q p → p < k → Chooses t s (next rule t s w choice q) q → state_at s p ≡ Ready
    → eqb p (choice q) ≡ eqb p (other q)) where
  -- a child, if its parent moves alike
  same_child :
      (q p : ℕ) → SubPlan t q p → p < k → next rule t s w choice q ≡ next rule t s w other q
      → next rule t s w choice p ≡ next rule t s w other p
  same_child q p c l e =
      next_child rule t s w choice tree q p c
      ∙ same_move rule t s w (next rule t s w choice q) q p choice other (agree q p c l)
      ∙ rw e (sym (next_child rule t s w other tree q p c))

  same_below : (j : ℕ) → j ≤ k → (p : ℕ) → p < j → next rule t s w choice p ≡ next rule t s w other p
  same_below zero h p l = absurd (omega arith)
  same_below (suc j) h p l = go (same_below j (omega arith)) (last_or p j l) p refl
    where
      go :
          ((r : ℕ) → r < j → next rule t s w choice r ≡ next rule t s w other r) → (p ≡ j) ⊎ (p < j) → (r : ℕ) → r ≡ p
          → next rule t s w choice r ≡ next rule t s w other r
      go ih (inr y) r e = rw e (ih p y)
      go ih (inl y) zero e = next_root rule t s w choice ∙ sym (next_root rule t s w other)
      go ih (inl y) (suc r) e =
          let q : ℕ = parent t (suc r) in
          let d = tree.down (suc r) (omega arith) (omega arith) in
          same_child q (suc r) (sub_plan t r (omega arith)) (omega arith) (ih q (omega arith))

  same_first : step_first rule t s w choice k ≡ step_first rule t s w other k
  same_first =
      ext_get_or 0 (step_first rule t s w choice k) (step_first rule t s w other k)
      (length_first rule t s w choice k ∙ sym (length_first rule t s w other k))
      (λ p l. let h : p < k = omega (arith, length_first rule t s w choice k) in same_byte p h)
    where
      same_byte : (p : ℕ) → p < k → byte_at (step_first rule t s w choice k) p ≡ byte_at (step_first rule t s w other k) p
      same_byte p l =
          byte_first rule t s w choice k p l ∙ ap code (same_below k (omega arith) p l) ∙ sym (byte_first rule t s w other k p l)

  pub same_step : take k (step_by rule t s w choice) ≡ take k (step_by rule t s w other)
  unfolding step_by
  same_step =
      take_first rule t s w choice (plan_count t) k within ∙ same_first ∙ sym (take_first rule t s w other (plan_count t) k within)
