-- A run under the premises of document 02 (viii): each step that changes a state leaves fewer moves, of which there are at most six for
-- each plan. Assumes nothing.
use Prim.Native.Nat.{ℕ, zero, suc, ◌+◌, ◌*◌, ◌≤◌, ◌<◌}
use native.Mathlib.Omega.{arith}
use mathlib.Core.Bool.{Bool, true, false, not, ◌&&◌, true≢false}
use mathlib.Core.Path.{◌≡◌, sym, ap, ◌∙◌}
use mathlib.Core.Logic.{◌⊎◌, inl, inr, ⊎_elim}
use mathlib.Core.List.{List}
use lib.Dec.{T, leb, ltb, leb→le, ltb→lt}
use borrow.Author.Tests.{ltb-true, not-false}
use lib.Seq.{ext_get_or}
use Rattle.rules.specs.Bytes.{byte_at}
use Rattle.rules.specs.States.{code, is_code, state_at, is}
use Rattle.rules.specs.Table.{plan_count, entry, retry_aborted}
use Rattle.rules.specs.Words.{word, pick_of, holds}
use Rattle.rules.specs.HandedIn.{bad_state}
use Rattle.rules.specs.Step.{chosen, step_by, step_under, step}
use Rattle.rules.specs.Rest.{after, settled}
use Rattle.rules.specs.Answers.{table_check, Done}
use Rattle.rules.specs.declared.Condition.TheVariants.{Suspend, Reactivate}
use Rattle.rules.specs.declared.PlanState.{PlanState}
use Rattle.rules.specs.declared.PlanState.TheVariants.{
  Inactive,
  Considered,
  Possible,
  Ready,
  Activated,
  Suspended,
  Completed,
  Aborted,
  Rejected,
}
use Rattle.rules.proofs.Codes.{code_of}
use Rattle.rules.proofs.Same.{equal_same}
use Rattle.rules.proofs.Tree.{or_left, tree, passes}
use Rattle.demands.specs.PassesStates.{PassesStates}
use Rattle.demands.specs.BranchesAgree.{BranchesAgree}
use Rattle.demands.specs.MovesLeft.{moves_left, stuck, all_left}
use Rattle.demands.proofs.Numbers.{last_or}
use Rattle.demands.proofs.Tests.{left, right, either}
use Rattle.demands.proofs.States.{is_it}
use Rattle.demands.proofs.Step.{length_step, byte_step, state_step}
use Rattle.demands.proofs.PassedStates.{passes_valid}
use Rattle.demands.proofs.PassedCall.{after_passes}
use Rattle.demands.proofs.Falls.{falls, all_fell}

-- at most six moves are left to a plan
at_most_six : (b : Bool) (x : PlanState) → moves_left b x ≤ 6
at_most_six b Inactive = omega arith
at_most_six b Considered = omega arith
at_most_six b Possible = omega arith
at_most_six b Ready = omega arith
at_most_six b Activated = omega arith
at_most_six true Suspended = omega arith
at_most_six false Suspended = omega arith
at_most_six b Completed = omega arith
at_most_six b Aborted = omega arith
at_most_six b Rejected = omega arith

-- what a fall says in numbers
fall :
    (a : Bool) (x : PlanState) (b : Bool) (y : PlanState) → T (falls a x b y)
    → (moves_left b y < moves_left a x) ⊎ ((moves_left b y ≤ moves_left a x) × (y ≡ x))
fall a x b y h =
    let less : Bool = leb (moves_left b y) (moves_left a x) in
    ⊎_elim (λ l. inl (ltb→lt (moves_left b y) (moves_left a x) l))
    (λ k. inr (leb→le (moves_left b y) (moves_left a x) (right (is x y) less k), is_it x y (left (is x y) less k)))
    (either (ltb (moves_left b y) (moves_left a x)) (is x y && less) h)

module _ (t w : List ℕ) where
  six_each : (st : ℕ → PlanState) (k : ℕ) → all_left t w st k ≤ 6 * k
  unfolding all_left
  six_each st zero = omega arith
  six_each st (suc k) = omega (arith, six_each st k, at_most_six (stuck t w st k) (st k))

  -- where each of the first k plans falls, so do they all together, or all stay
  fall_together :
      (old new : ℕ → PlanState) (k : ℕ)
      → ((p : ℕ) → p < k → T (falls (stuck t w old p) (old p) (stuck t w new p) (new p)))
      → (all_left t w new k < all_left t w old k)
      ⊎ ((all_left t w new k ≤ all_left t w old k) × ((p : ℕ) → p < k → new p ≡ old p))
  unfolding all_left
  fall_together old new zero fell = inr (omega arith, λ p l. absurd (omega arith))
  fall_together old new (suc k) fell =
      go (fall_together old new k (λ p l. fell p (omega arith)))
      (fall (stuck t w old k) (old k) (stuck t w new k) (new k) (fell k (omega arith)))
    where
      go :
          (all_left t w new k < all_left t w old k)
          ⊎ ((all_left t w new k ≤ all_left t w old k) × ((p : ℕ) → p < k → new p ≡ old p))
          → (moves_left (stuck t w new k) (new k) < moves_left (stuck t w old k) (old k))
          ⊎ ((moves_left (stuck t w new k) (new k) ≤ moves_left (stuck t w old k) (old k)) × (new k ≡ old k))
          → (all_left t w new (suc k) < all_left t w old (suc k))
          ⊎ ((all_left t w new (suc k) ≤ all_left t w old (suc k)) × ((p : ℕ) → p < suc k → new p ≡ old p))
      go (inl x) (inl y) = inl (omega arith)
      go (inl x) (inr y) = inl (omega (arith, y.0))
      go (inr x) (inl y) = inl (omega (arith, x.0))
      go (inr x) (inr y) = inr (omega (arith, x.0, y.0), λ p l. ⊎_elim (λ e. rw e y.1) (x.1 p) (last_or p k l))

-- states that pass check 11 are told by their bytes
byte_told : (t s : List ℕ) → PassesStates t s → (p : ℕ) → p < plan_count t → byte_at s p ≡ code (state_at s p)
unfolding state_at bad_state
byte_told t s passed p l = sym (code_of (byte_at s p) (ltb-true (byte_at s p) 9 (go p (passed.unbroken p l))))
  where
    go : (k : ℕ) → bad_state t s k ≡ false → is_code (byte_at s k) ≡ true
    go zero e = not-false _ e
    go (suc k) e = not-false _ (or_left _ _ e)

-- Where nobody retries and nobody holds both.
module _
    (rule : ℕ) (t w : List ℕ) (done : table_check t ≡ Done) (words : BranchesAgree t w)
    (once : (p : ℕ) → p < plan_count t → T (not (retry_aborted (entry t p))))
    (never : (p : ℕ) → p < plan_count t → T (holds Suspend (entry t p) (word w p)) → T (holds Reactivate (entry t p) (word w p)) → ⊥) where
  abbrev left_in : List ℕ → ℕ
  left_in s = all_left t w (state_at s) (plan_count t)

  stays : (s : List ℕ) (choice : ℕ → ℕ) → PassesStates t s
      → ((p : ℕ) → p < plan_count t → state_at (step_by rule t s w choice) p ≡ state_at s p) → step_by rule t s w choice ≡ s
  stays s choice passed alike =
      let long = length_step rule t s w choice in
      ext_get_or 0 (step_by rule t s w choice) s (long ∙ sym passed.long) (λ p l. same_byte p (omega (arith, long)))
    where
      same_byte : (p : ℕ) → p < plan_count t → byte_at (step_by rule t s w choice) p ≡ byte_at s p
      same_byte p l =
          byte_step rule t s w choice p l
          ∙ ap code (sym (state_step rule t s w choice p l) ∙ alike p l)
          ∙ sym (byte_told t s passed p l)

  -- a step leaves fewer moves, or all states
  step_falls : (s : List ℕ) → PassesStates t s → (left_in (step rule t s w) < left_in s) ⊎ (step rule t s w ≡ s)
  unfolding step step_under
  step_falls s passed =
      let choice = chosen t s (λ q. pick_of (word w q)) in
      ⊎_elim (λ l. inl l) (λ r. inr (stays s choice passed r.1))
      (fall_together t w (state_at s) (state_at (step_by rule t s w choice)) (plan_count t)
      (all_fell rule t s w choice (tree t (passes t done)) (passes_valid t s passed) once never))

  -- after k steps, each of which changed a state, k of the moves are gone
  pub left_after :
      (s : List ℕ) → PassesStates t s → (k : ℕ) → ((j : ℕ) → j < k → settled rule t s w j ≡ false)
      → left_in (after rule t s w k) + k ≤ 6 * plan_count t
  unfolding after
  left_after s passed zero moved = omega (arith, six_each t w (state_at s) (plan_count t))
  left_after s passed (suc k) moved =
      let now = after rule t s w k in
      let before = left_after s passed k (λ j l. moved j (omega arith)) in
      ⊎_elim (λ l. omega arith)
      (λ e. absurd (true≢false (sym (equal_same (step rule t now w) now e) ∙ moved k (omega arith))))
      (step_falls now (after_passes rule t s w done passed words k))
