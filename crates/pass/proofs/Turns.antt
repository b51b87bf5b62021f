-- The new states, plan by plan: a plan's turn adds its new state to those of the plans before it. Assumes nothing.
use Prim.Native.Nat.{ℕ, zero, suc, ◌+◌, ◌<◌}
use native.Mathlib.Omega.{arith}
use native.Mathlib.Numerals.{add-one}
use mathlib.Core.Path.{◌≡◌, refl, sym, ap, ◌∙◌}
use mathlib.Core.List.{List, [], ◌∷◌, ◌++◌}
use lib.ListN.{length, take, set, length-set}
use lib.Seq.{get_or-take, get_or-set_other, take-suc-set}
use Rattle.rules.specs.States.{code, state_of, state_at}
use Rattle.rules.specs.Table.{plan_count, parent}
use Rattle.rules.specs.Step.{chosen, move_of, orders_if, new_state, step_first, step_by, step_under}
use Rattle.rules.specs.declared.PlanState.{PlanState}
use Rattle.rules.proofs.Codes.{state_is}
use Rattle.children.specs.Sets.{Beyond}

-- the states of the first k plans
pub part_state : (k : ℕ) (new : List ℕ) (p : ℕ) → p < k → state_at (take k new) p ≡ state_at new p
part_state k new p l = state_is (take k new) p ∙ ap state_of (get_or-take k new p 0 l) ∙ sym (state_is new p)

module _ (rule : ℕ) (t s w : List ℕ) (choice : ℕ → ℕ) where
  -- of the new states only the parent's is read
  pub prefix_state :
      (new : List ℕ) (p : ℕ) → (0 < p → parent t p < p) → new_state rule t s w choice (take p new) p ≡ new_state rule t s w choice new p
  prefix_state new zero down = refl
  prefix_state new (suc k) down =
      let q : ℕ = parent t (suc k) in
      ap (λ (x : PlanState). move_of rule t s w choice x (orders_if t s w choice (state_at s q) x q (suc k)) (suc k))
      (part_state (suc k) new q (down (omega arith)))

  pub none_moved : (new : List ℕ) → take 0 new ≡ step_first rule t s w choice 0
  unfolding step_first
  none_moved new = refl

  pub one_more_moved :
      (new : List ℕ) (p v : ℕ) → (0 < p → parent t p < p) → p < length new → v ≡ code (new_state rule t s w choice new p)
      → take p new ≡ step_first rule t s w choice p → take (p + 1) (set new p v) ≡ step_first rule t s w choice (p + 1)
  unfolding step_first
  one_more_moved new p v down l e before =
      rw (add-one p)
      (take-suc-set new p v l
      ∙ ap (λ (x : List ℕ). x ++ (v ∷ [])) before
      ∙ ap (λ (x : ℕ). step_first rule t s w choice p ++ (x ∷ []))
      (e
      ∙ ap code
      (sym (prefix_state new p down) ∙ ap (λ (x : List ℕ). new_state rule t s w choice x p) before)))

-- what is written below p, and so below p + 1
pub none_written : (new : List ℕ) → Beyond 0 new new
none_written new = record { long = refl; rest = λ k l. refl }

pub one_more_written : (old new : List ℕ) (p v : ℕ) → Beyond p old new → Beyond (p + 1) old (set new p v)
one_more_written old new p v before =
    record {
      long = length-set new p v ∙ before.long;
      rest = λ k l. get_or-set_other new p k v 0 (λ e. omega arith) ∙ before.rest k (omega arith);
    }

pub all_moved :
    (rule : ℕ) (t s w : List ℕ) (pick : ℕ → ℕ) → step_first rule t s w (chosen t s pick) (plan_count t) ≡ step_under rule t s w pick
unfolding step_under step_by
all_moved rule t s w pick = refl
