-- Document 02 (viii), the theorem: where no plan has retry-aborted, and none has suspend and reactivate both holding under the words that
-- are held, every run that is not refused rests after at most six steps for each plan, by either rule, in tables of both versions, from all
-- states that pass check 11, with a budget at least that large. And so what a call for the figure answers is kept. Assumes nothing.
use Prim.Native.Nat.{ℕ, suc, ◌*◌, ◌≤◌, ◌<◌}
use native.Mathlib.Omega.{arith}
use mathlib.Core.Bool.{Bool, true, false, cond, not}
use mathlib.Core.Path.{◌≡◌, refl, sym}
use mathlib.Core.List.{List}
use lib.Dec.{T}
use Rattle.rules.specs.Table.{plan_count, entry, retry_aborted}
use Rattle.rules.specs.Words.{word, holds}
use Rattle.rules.specs.Rest.{settled, least_rest}
use Rattle.rules.specs.Answers.{call_check, run_answer, Outcome, Figure, Done}
use Rattle.rules.specs.declared.Condition.TheVariants.{Suspend, Reactivate}
use Rattle.rules.proofs.Below.{none_true}
use Rattle.rules.proofs.Least.{nowhere, passed_over}
use Rattle.demands.specs.Bound.{
  most_steps,
  nobody_retries,
  both_hold,
  nobody_holds_both,
  premises,
  Rests,
  RestsWithin,
  bound_check,
  bound_answer,
}
use Rattle.demands.proofs.Tests.{both, left, right, is_false}
use Rattle.demands.proofs.PassedCall.{table_passes, handed_in, words_in}
use Rattle.demands.proofs.Resting.{left_after}
use Rattle.std.specs.Prelude.{Option, Ok, Err, Some, None}

module _ (t w : List ℕ) (hold : T (premises t w)) where
  once : (p : ℕ) → p < plan_count t → T (not (retry_aborted (entry t p)))
  unfolding nobody_retries
  once p l =
      let none = left (nobody_retries t) (nobody_holds_both t w) hold in
      let lacks = none_true (λ q. retry_aborted (entry t q)) (plan_count t) (is_false _ none) p l in
      rw lacks tt

  never : (p : ℕ) → p < plan_count t → T (holds Suspend (entry t p) (word w p)) → T (holds Reactivate (entry t p) (word w p)) → ⊥
  unfolding nobody_holds_both both_hold
  never p l x y =
      let none = right (nobody_retries t) (nobody_holds_both t w) hold in
      let apart = none_true (both_hold t w) (plan_count t) (is_false _ none) p l in
      rw apart at (both (holds Suspend (entry t p) (word w p)) (holds Reactivate (entry t p) (word w p)) x y)

  module _ (rule : ℕ) (s c : List ℕ) (budget : ℕ) (done : call_check rule t s w c ≡ Done) (large : most_steps (plan_count t) ≤ budget) where
    -- as long as each step changes something
    fewer : (k : ℕ) → ((j : ℕ) → j < k → settled rule t s w j ≡ false) → k ≤ most_steps (plan_count t)
    fewer k moved =
        let passed = table_passes rule t s w c done in
        omega (arith, left_after rule t w passed (words_in rule t s w c done) once never s (handed_in rule t s w c done) k moved)

    -- by what the search for the least step without change finds
    run_rests : (found : Option ℕ) → least_rest rule t s w budget ≡ found → Rests t w (most_steps (plan_count t)) rule s c budget
    unfolding least_rest run_answer
    run_rests (Some k) is =
        record {
          steps = k;
          few = fewer k (passed_over (settled rule t s w) (suc budget) k is);
          answer = rw (run_answer, done, is) refl;
        }
    run_rests None is = absurd (omega (arith, fewer (suc budget) (nowhere (settled rule t s w) (suc budget) is)))

pub rests_within : (t w : List ℕ) → T (premises t w) → RestsWithin t w (most_steps (plan_count t))
rests_within t w hold =
    record { rests = λ rule s c budget done large. run_rests t w hold rule s c budget done large (least_rest rule t s w budget) refl }

-- the same in full, in the words of the run's contract
pub six_steps_a_plan :
    (t w : List ℕ) → T (nobody_retries t) → T (nobody_holds_both t w) → (rule : ℕ) (s c : List ℕ) (budget : ℕ)
    → call_check rule t s w c ≡ Done → 6 * plan_count t ≤ budget
    → (k : ℕ) × (k ≤ 6 * plan_count t) × (run_answer rule t s w c budget ≡ Ok (Some k))
six_steps_a_plan t w x y rule s c budget done large =
    let run = (rests_within t w (both (nobody_retries t) (nobody_holds_both t w) x y)).rests rule s c budget done large in
    (run.steps, run.few, run.answer)

-- what a call answers is kept
pub bound_kept : (t w : List ℕ) (k : ℕ) → bound_answer t w ≡ Ok (Some k) → RestsWithin t w k
unfolding bound_answer
bound_kept t w k e = go (bound_check t w) (premises t w) refl refl e
  where
    go :
        (o : Outcome) (b : Bool) → bound_check t w ≡ o → premises t w ≡ b
        → elim o as (λ _. Figure) [ Ok tt ↦ cond b (Ok (Some (most_steps (plan_count t)))) (Ok None) | Err why ↦ Err why ]
        ≡ Ok (Some k)
        → RestsWithin t w k
    go (Ok tt) true x y h = let same : most_steps (plan_count t) ≡ k = cc in rw (sym same) (rests_within t w (rw y tt))
    go (Ok tt) false x y h = let z : ◌≡◌ {A = ℕ} 0 1 = cc in absurd (omega arith)
    go (Err why) b x y h = let z : ◌≡◌ {A = ℕ} 0 1 = cc in absurd (omega arith)
