-- When two tables, or two ways to choose, permit the same verdicts on a record: it is checked alike, falls into the same steps, and some
-- picks explain the same in the one as in the other. Assumes nothing.
use Prim.Native.Nat.{ℕ, suc, ◌≤◌}
use native.Mathlib.Omega.{arith}
use mathlib.Core.Path.{◌≡◌, ◌∙◌}
use mathlib.Core.List.{List}
use Rattle.rules.specs.Table.{plan_count}
use Rattle.rules.specs.Record.{Choosing, step_count, ExplainedFirstBy}
use Rattle.rules.specs.Answers.{record_check, words_check, StepPassesBy, JudgedBy, malformed, bad_words, unexplained, accepted, Verdict, Done}

-- what some picks explain of the first plans of a step, under the one table and way, some explain under the other
abbrev pub Explains : ℕ → List ℕ → Choosing → List ℕ → Choosing → List ℕ → Type 0
Explains rule r choosing t choosing' u =
    (i k : ℕ) → k ≤ plan_count t → ExplainedFirstBy choosing rule t r i k → ExplainedFirstBy choosing' rule u r i k

pub record SameJudging (rule : ℕ) (r : List ℕ) (choosing : Choosing) (t : List ℕ) (choosing' : Choosing) (u : List ℕ) : Type 0 where
  pub checked : record_check rule u r ≡ record_check rule t r
  pub plans : plan_count u ≡ plan_count t
  pub steps : step_count u r ≡ step_count t r
  pub words : (i : ℕ) → words_check u r i ≡ words_check t r i
  pub there : record_check rule t r ≡ Done → Explains rule r choosing t choosing' u
  pub back : record_check rule t r ≡ Done → Explains rule r choosing' u choosing t

module _ {rule : ℕ} {r : List ℕ} {choosing : Choosing} {t : List ℕ} {choosing' : Choosing} {u : List ℕ}
    (same : SameJudging rule r choosing t choosing' u) where
  still_passes : record_check rule t r ≡ Done → (i : ℕ) → StepPassesBy choosing rule t r i → StepPassesBy choosing' rule u r i
  still_passes done i passed =
      record {
        words = same.words i ∙ passed.words;
        states = same.there done i (plan_count u) (omega (arith, same.plans)) (rw same.plans passed.states);
      }

  pub still_judged : (v : Verdict) → JudgedBy choosing rule t r v → JudgedBy choosing' rule u r v
  still_judged v (malformed e) = malformed (same.checked ∙ e)
  still_judged v (bad_words i done l before e) =
      bad_words i (same.checked ∙ done) (rw same.steps l) (λ j m. still_passes done j (before j m)) (same.words i ∙ e)
  still_judged v (unexplained i p done l before e h below n) =
      unexplained i p (same.checked ∙ done) (rw same.steps l) (λ j m. still_passes done j (before j m)) (same.words i ∙ e)
      (rw same.plans h) (λ j m. same.there done i (suc j) (omega arith) (below j m))
      (λ x. n (same.back done i (suc p) (rw same.plans h) x))
  still_judged v (accepted done passes) =
      rw (← same.steps) (accepted (same.checked ∙ done) (λ i l. still_passes done i (passes i (rw same.steps at l))))
