-- Tables that are alike, one of them a tree, give the same steps: piece by piece what children's states mean to a plan, what it orders,
-- how it moves. Assumes nothing.
use Prim.Native.Nat.{ℕ, zero, suc, ◌≤◌, ◌<◌}
use native.Mathlib.Omega.{arith}
use mathlib.Core.Bool.{Bool, not, ◌&&◌}
use mathlib.Core.Path.{◌≡◌, refl, ap, ◌∙◌}
use mathlib.Core.List.{List}
use Rattle.rules.specs.States.{cause_code, state_at, one_of, is}
use Rattle.rules.specs.Table.{plan_count, entry, parent, body_of, named, retry_aborted, wait_for_optional}
use Rattle.rules.specs.Words.{word, pick_of, holds, satisfiable}
use Rattle.rules.specs.Step.{
  move_by,
  lost_states,
  too_many_lost,
  children_complete,
  fallback,
  ready_or,
  chosen,
  orders,
  the_state,
  the_cause,
  moved_by,
  new_by,
  step_first,
  step_by,
  step_under,
  step,
  causes_to,
  causes,
}
use Rattle.rules.specs.declared.Cause.{Cause}
use Rattle.rules.specs.declared.Orders.{Orders}
use Rattle.rules.specs.declared.PlanEntry.{PlanEntry}
use Rattle.rules.specs.declared.PlanState.{PlanState}
use Rattle.rules.specs.declared.PlanState.TheVariants.{Ready}
use Rattle.rules.proofs.Below.{same_map_below}
use Rattle.rules.proofs.Tree.{Tree}
use Rattle.alike.proofs.Agree.{some_child, first_child}
use Rattle.alike.proofs.Alike.{Alike, with_wait, same_entry, same_parent, same_children}

pub parent_within : {t : List ℕ} → Tree t → (k : ℕ) → suc k < plan_count t → parent t (suc k) < plan_count t
parent_within tree k l = omega (arith, tree.down (suc k) (omega arith) l)

-- a move does not read byte 7
move_unread :
    {A : Type 0} (to : PlanState → Cause → A) (parent : PlanState) (o : Orders) (x : ℕ) (lost may_complete : Bool) (old : PlanState)
    (m : ℕ) (e : PlanEntry)
    → move_by to parent o (with_wait m e) x lost may_complete old ≡ move_by to parent o e x lost may_complete old
unfolding move_by holds satisfiable
move_unread to parent o x lost may_complete old m e = refl

-- the any-order choice: the same children are named
module _ {t u : List ℕ} (a : Alike t u) (s : List ℕ) (q : ℕ) where
  abbrev ready_named : List ℕ → ℕ → Bool
  ready_named x c = is Ready (state_at s c) && named (entry x c)

  same_test : (c : ℕ) → c < plan_count t → ready_named u c ≡ ready_named t c
  same_test c l = rw (same_entry a named (λ m e. refl) c l)

  same_fallback : fallback u s q ≡ fallback t s q
  unfolding fallback
  same_fallback = rw (same_children a q, some_child _ _ t same_test q, first_child _ _ t same_test q)

  pub same_chosen : (pick : ℕ → ℕ) → chosen u s pick q ≡ chosen t s pick q
  unfolding ready_or chosen
  same_chosen pick = rw (same_fallback, same_children a q)

-- what is read of a plan's entry
module _ {t u : List ℕ} (a : Alike t u) (p : ℕ) (l : p < plan_count t) where
  pub same_body : body_of (entry u p) ≡ body_of (entry t p)
  same_body = same_entry a body_of (λ m e. refl) p l

  pub same_again : retry_aborted (entry u p) ≡ retry_aborted (entry t p)
  same_again = same_entry a retry_aborted (λ m e. refl) p l

  same_optional : wait_for_optional (entry u p) ≡ wait_for_optional (entry t p)
  same_optional = same_entry a wait_for_optional (λ m e. refl) p l

-- One plan, by the old states.
module _ {t u : List ℕ} (a : Alike t u) (s : List ℕ) (p : ℕ) (l : p < plan_count t) where
  -- what its children's states mean to it: too many are lost, they let it complete
  pub same_lost : (rule : ℕ) → too_many_lost u s rule p ≡ too_many_lost t s rule p
  unfolding too_many_lost
  same_lost rule = rw (same_again a p l, a.waits p l (λ c. not (one_of (lost_states rule (retry_aborted (entry t p))) (state_at s c))))

  pub same_complete : children_complete u s p ≡ children_complete t s p
  unfolding children_complete
  same_complete = rw (a.waits p l _, same_optional a p l, same_children a p, same_body a p l)

  -- what it orders a child, where the any-order choice is the same
  pub same_orders :
      (x : ℕ) (choice other : ℕ → ℕ) → choice p ≡ other p → (c : ℕ) → orders u s x choice p c ≡ orders t s x other p c
  unfolding orders
  same_orders x choice other e c = rw (same_children a p, same_body a p l, same_again a p l, e)

  -- how it moves, and why
  pub same_move :
      {A : Type 0} (to : PlanState → Cause → A) (rule : ℕ) (w : List ℕ) (choice other : ℕ → ℕ) (now : PlanState) (o : Orders)
      → moved_by rule u s w choice to now o p ≡ moved_by rule t s w other to now o p
  same_move to rule w choice other now o =
      rw (same_lost rule, same_complete) (same_entry a _ (move_unread to now o (word w p) _ _ (state_at s p)) p l)

-- The whole step: plan by plan in table order, as parents come first.
module _ {t u : List ℕ} (a : Alike t u) (tree : Tree t) (rule : ℕ) (s w : List ℕ) where
  module _ (choice other : ℕ → ℕ) (agree : (q : ℕ) → q < plan_count t → choice q ≡ other q) where
    -- the new state of a plan and its cause, where the plans before it have the same states
    same_new :
        {A : Type 0} (to : PlanState → Cause → A) (new : List ℕ) (k : ℕ) → k < plan_count t
        → new_by rule u s w choice to new k ≡ new_by rule t s w other to new k
    same_new to new zero l = same_move a s 0 l to rule w choice other _ _
    same_new to new (suc k) l =
        let q : ℕ = parent t (suc k) in
        let within = parent_within tree k l in
        same_move a s (suc k) l to rule w choice other _ _
        ∙ rw (same_parent a (suc k) l, same_orders a s q within (word w q) choice other (agree q within) (suc k))

    same_first : (k : ℕ) → k ≤ plan_count t → step_first rule u s w choice k ≡ step_first rule t s w other k
    unfolding step_first
    same_first zero l = refl
    same_first (suc k) l = rw (same_first k (omega arith), same_new the_state (step_first rule t s w other k) k l)

    same_all : step_by rule u s w choice ≡ step_by rule t s w other
    unfolding step_by
    same_all = rw a.plans (same_first (plan_count t) (omega arith))

    same_why : (new : List ℕ) → causes_to rule u s w choice new ≡ causes_to rule t s w other new
    unfolding causes_to
    same_why new = rw a.plans (same_map_below _ _ (plan_count t) (λ k l. ap cause_code (same_new the_cause new k l)))

  pub same_under : (pick : ℕ → ℕ) → step_under rule u s w pick ≡ step_under rule t s w pick
  unfolding step_under
  same_under pick = same_all (chosen u s pick) (chosen t s pick) (λ q l. same_chosen a s q pick)

  -- under the picks of the words
  pub same_by_words : step rule u s w ≡ step rule t s w
  unfolding step
  same_by_words = same_under (λ q. pick_of (word w q))

  pub same_causes : causes rule u s w ≡ causes rule t s w
  unfolding causes
  same_causes =
      let pick : ℕ → ℕ = (λ q. pick_of (word w q)) in
      ap (causes_to rule u s w (chosen u s pick)) same_by_words
      ∙ same_why (chosen u s pick) (chosen t s pick) (λ q l. same_chosen a s q pick) (step rule t s w)
