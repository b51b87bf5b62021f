-- 'In every accepted record, after every step: an ended plan keeps its ending unless in that step it, or a plan above it, was retried
-- after an abort.' Assumes nothing.
use Prim.Native.Nat.{ℕ, zero, suc, ◌≤◌, ◌<◌}
use native.Mathlib.Omega.{arith}
use mathlib.Core.Bool.{not, ◌&&◌}
use mathlib.Core.Path.{◌≡◌, ◌∙◌}
use mathlib.Core.Logic.{◌⊎◌, inl, inr}
use mathlib.Core.List.{List}
use lib.Dec.{T, eqb, eqb_refl, eqb-suc-zero}
use Rattle.rules.specs.States.{state_at, is, ended}
use Rattle.rules.specs.Table.{plan_count, parent, is_or_is_above}
use Rattle.rules.specs.Step.{chosen, step_under}
use Rattle.rules.specs.HandedIn.{suits}
use Rattle.rules.specs.Record.{states_of, states_before, words_of}
use Rattle.rules.specs.Answers.{Judged}
use Rattle.rules.specs.Demands.{SubPlan, Retried, EndingsKept}
use Rattle.rules.specs.declared.PlanState.{PlanState}
use Rattle.rules.specs.declared.PlanState.TheVariants.{Considered, Aborted}
use Rattle.rules.proofs.Tree.{passes, Tree, tree}
use Rattle.demands.proofs.Tests.{both, left, right, in_left, in_right, decide}
use Rattle.demands.proofs.Children.{sub_plan, after_parent}
use Rattle.demands.proofs.States.{is_it, states, pairs}
use Rattle.demands.proofs.Moves.{dormant, begins_anew, keeps_ending}
use Rattle.demands.proofs.Step.{next, state_step}
use Rattle.demands.proofs.PassedStates.{Valid, passes_valid}
use Rattle.demands.proofs.Went.{root_moved, child_moved, plan_moved}
use Rattle.demands.proofs.Accepted.{accepted_step}
use Rattle.std.specs.Prelude.{Ok}

-- A plan that had begun and is dormant after the step was retried, or stands under one that was.
begun_parent : (x y : PlanState) → T (suits x y) → T (not (dormant y)) → T (not (dormant x))
begun_parent x y h k =
    pairs (λ a b. suits a b && not (dormant b)) (λ a b. not (dormant a)) tt x y (both (suits x y) (not (dormant y)) h k)

module _ (rule : ℕ) (t s w : List ℕ) (pick : ℕ → ℕ) (tree : Tree t) (v : Valid t (state_at s)) where
  abbrev shown : List ℕ
  shown = step_under rule t s w pick

  abbrev new : ℕ → PlanState
  new p = next rule t s w (chosen t s pick) p

  shows : (p : ℕ) → p < plan_count t → state_at shown p ≡ new p
  unfolding step_under
  shows = state_step rule t s w (chosen t s pick)

  -- some plan, at most k above p, was retried
  record RetriedAbove (k p : ℕ) : Type 0 where
    retried : ℕ
    above : T (is_or_is_above t retried k p)
    was : state_at s retried ≡ Aborted
    now : state_at shown retried ≡ Considered

  by_itself : (k p : ℕ) → p < plan_count t → T (is Aborted (state_at s p) && is Considered (new p)) → RetriedAbove k p
  unfolding is_or_is_above
  by_itself k p l h =
      record {
        retried = p;
        above = at k;
        was = is_it Aborted (state_at s p) (left (is Aborted (state_at s p)) (is Considered (new p)) h);
        now = shows p l ∙ is_it Considered (new p) (right (is Aborted (state_at s p)) (is Considered (new p)) h);
      }
    where
      at : (j : ℕ) → T (is_or_is_above t p j p)
      at zero = eqb_refl p
      at (suc j) = in_left (eqb p p) _ (eqb_refl p)

  by_parent : (k j : ℕ) → RetriedAbove k (parent t (suc j)) → RetriedAbove (suc k) (suc j)
  unfolding is_or_is_above
  by_parent k j r =
      record {
        retried = r.retried;
        above = in_right (eqb r.retried (suc j)) _ (both (not (eqb (suc j) 0)) _ (rw (eqb-suc-zero j) tt) r.above);
        was = r.was;
        now = r.now;
      }

  -- if p had begun and has not after the step, some plan, p or at most k above it, was retried
  abbrev WentBack : ℕ → ℕ → Type 0
  WentBack k p = p ≤ k → p < plan_count t → T (not (dormant (state_at s p))) → T (dormant (new p)) → RetriedAbove k p

  back_root : (k : ℕ) → WentBack k 0
  back_root k h l x y = go (begins_anew (root_moved rule t s w (chosen t s pick)) x y)
    where
      go : ⊥ ⊎ T (is Aborted (state_at s 0) && is Considered (new 0)) → RetriedAbove k 0
      go (inl z) = absurd z
      go (inr z) = by_itself k 0 l z

  back_child : (k j : ℕ) → WentBack k (parent t (suc j)) → WentBack (suc k) (suc j)
  back_child k j above h l x y = go (begins_anew (child_moved rule t s w (chosen t s pick) tree q (suc j) c) x y)
    where
      q : ℕ
      q = parent t (suc j)

      c : SubPlan t q (suc j)
      c = sub_plan t j l

      go : T (dormant (new q)) ⊎ T (is Aborted (state_at s (suc j)) && is Considered (new (suc j))) → RetriedAbove (suc k) (suc j)
      go (inl z) =
          let lower = after_parent t tree q (suc j) c in
          let begun = begun_parent (state_at s q) (state_at s (suc j)) (v.each q (suc j) c) x in
          by_parent k j (above (omega arith) (omega arith) begun z)
      go (inr z) = by_itself (suc k) (suc j) l z

  back : (k p : ℕ) → WentBack k p
  back zero zero = back_root zero
  back (suc k) zero = back_root (suc k)
  back zero (suc j) = λ h. absurd (omega arith)
  back (suc k) (suc j) = back_child k j (back k (parent t (suc j)))

  step_keeps : EndingsKept t s shown
  step_keeps p l h = go (decide (dormant (new p)))
    where
      go :
          T (dormant (new p)) ⊎ T (not (dormant (new p)))
          → (state_at shown p ≡ state_at s p) ⊎ ((a : ℕ) × Retried t s shown a p)
      go (inl x) =
          let r = back p p (omega arith) l (states ended (λ y. not (dormant y)) tt (state_at s p) h) x in
          inr (r.retried, record { is_or_above = r.above; was = r.was; now = r.now })
      go (inr x) =
          let m = plan_moved rule t s w (chosen t s pick) tree p l in
          inl (shows p l ∙ is_it (state_at s p) (new p) (keeps_ending m.moved h x))

pub endings_kept :
    (rule : ℕ) (t r : List ℕ) (steps : ℕ) → Judged rule t r (Ok steps) → (i : ℕ) → i < steps
    → EndingsKept t (states_before t r i) (states_of t r i)
endings_kept rule t r steps judged i l =
    let step = accepted_step rule t r steps judged i l in
    let s = states_before t r i in
    rw step.leads
    (step_keeps rule t s (words_of t r i) step.pick (tree t (passes t step.done)) (passes_valid t s step.before))
