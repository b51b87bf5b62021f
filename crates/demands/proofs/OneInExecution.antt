-- 'In every accepted record, after every step: of the sub plans of a sequential or any-order plan at most one is in execution', which
-- 'also holds for 5 and 8'. Assumes nothing.
use Prim.Native.Nat.{ℕ, ◌<◌}
use mathlib.Core.Bool.{Bool, true, false, not}
use mathlib.Core.Path.{◌≡◌, refl}
use mathlib.Core.List.{List}
use lib.Dec.{T}
use Rattle.rules.specs.States.{state_at, in_execution}
use Rattle.rules.specs.Table.{entry, body_of, retry_aborted}
use Rattle.rules.specs.HandedIn.{lets_later}
use Rattle.rules.specs.Record.{states_of}
use Rattle.rules.specs.Answers.{Judged}
use Rattle.rules.specs.Demands.{one_at_a_time, SubPlan, AtMostOne}
use Rattle.rules.specs.declared.Body.{Body}
use Rattle.rules.specs.declared.Body.TheVariants.{
  Leaf,
  Sequential,
  Parallel,
  AnyOrder,
  Unordered,
  OnAbort,
  OnSuspend,
  OnAbortOrSuspend,
  IfThenElse,
}
use Rattle.rules.specs.declared.PlanState.{PlanState}
use Rattle.demands.proofs.Numbers.{not_lower}
use Rattle.demands.proofs.Tests.{◌⇒◌}
use Rattle.demands.proofs.States.{every, states}
use Rattle.demands.proofs.PassedStates.{keeps, Valid, passes_valid}
use Rattle.demands.proofs.Accepted.{accepted_step}
use Rattle.std.specs.Prelude.{Ok}

-- what passes check 11 has it
module _ (t : List ℕ) (st : ℕ → PlanState) (v : Valid t st) where
  -- where a child in execution keeps the later ones Inactive
  none_later :
      (q c d : ℕ) → ((x : PlanState) → T (in_execution x) → T (keeps t q x)) → SubPlan t q c → SubPlan t q d → T (in_execution (st c))
      → T (in_execution (st d)) → c < d → ⊥
  none_later q c d kept at_c at_d x y l = rw (v.later q c d at_c at_d l (kept (st c) x)) at y

  one_of_ordered :
      (q c d : ℕ) → ((x : PlanState) → T (in_execution x) → T (keeps t q x)) → SubPlan t q c → SubPlan t q d → T (in_execution (st c))
      → T (in_execution (st d)) → c ≡ d
  one_of_ordered q c d kept at_c at_d x y =
      not_lower c d (none_later q c d kept at_c at_d x y) (none_later q d c kept at_d at_c y x)

  one_at_a_time_lem :
      (q c d : ℕ) → T (one_at_a_time (body_of (entry t q))) → SubPlan t q c → SubPlan t q d → T (in_execution (st c))
      → T (in_execution (st d)) → c ≡ d
  one_at_a_time_lem q c d h at_c at_d x y = go (body_of (entry t q)) refl h
    where
      again : Bool
      again = retry_aborted (entry t q)

      -- sequential, on abort and if-then-else keep the later ones
      kept :
          (body : Body) → body_of (entry t q) ≡ body → ((a : Bool) → T (every (λ z. in_execution z ⇒ not (lets_later body a z)))) → c ≡ d
      kept body b all =
          one_of_ordered q c d (λ z. states in_execution (keeps t q) (rw b (all again)) z) at_c at_d x y

      executing_kept : (a : Bool) → T (every (λ z. in_execution z ⇒ not (lets_later Sequential a z)))
      executing_kept true = tt
      executing_kept false = tt

      go : (body : Body) → body_of (entry t q) ≡ body → T (one_at_a_time body) → c ≡ d
      go Leaf b k = absurd k
      go Sequential b k = kept Sequential b executing_kept
      go Parallel b k = absurd k
      go AnyOrder b k = v.one q c d b at_c at_d x y
      go Unordered b k = absurd k
      go OnAbort b k = kept OnAbort b (λ a. tt)
      go OnSuspend b k = absurd k
      go OnAbortOrSuspend b k = absurd k
      go IfThenElse b k = kept IfThenElse b (λ a. tt)

pub one_in_execution :
    (rule : ℕ) (t r : List ℕ) (steps : ℕ) → Judged rule t r (Ok steps) → (i : ℕ) → i < steps → AtMostOne t (states_of t r i)
one_in_execution rule t r steps judged i l =
    one_at_a_time_lem t (state_at (states_of t r i)) (passes_valid t (states_of t r i) (accepted_step rule t r steps judged i l).after)
