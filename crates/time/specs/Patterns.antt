-- Document 003, section 13.2, and document 02 (iii): histories, when a pattern is satisfied and when it still can be, and what a question
-- is answered. Assumes nothing.
use Rattle.std.specs.Prelude.{ℕ, zero, suc, ◌+◌, ◌/◌, ◌%◌, ◌^◌, ◌≤◌, ◌<◌, ◌≡◌, ◌⊎◌, Bool, true, false, cond, not, ◌&&◌, List, length, get_or, eqb, leb, Result, Ok, Err}
use Rattle.std.proofs.Math.Dec.{ltb}
use Rattle.rules.specs.Answers.{◌and_then◌, refuse_if, Outcome, Done}
use Rattle.rules.specs.declared.Refusal.{Refusal}
use Rattle.rules.specs.declared.Refusal.TheVariants.{ValueRange, ManySamples, TimesOrder}
use Rattle.time.specs.Annotations.{base, counted, annotation_of, in_range, annotation_in_range, Exactly, Admits}
use Rattle.time.specs.declared.Annotation.{Annotation}
use Rattle.time.specs.declared.Judgement.{Judgement}
use Rattle.time.specs.declared.Judgement.TheVariants as judgement

-- every number below n passes a test; some number below n does
unfoldable pub every : (ℕ → Bool) → ℕ → Bool
every f zero = true
every f (suc k) = every f k && f k

abbrev pub some : (ℕ → Bool) → ℕ → Bool
some f n = not (every (λ i. not (f i)) n)

-- A sample is handed in as 2 * minute + truth, in two's complement; here its minute is counted as all are.
abbrev pub sample_at : List ℕ → ℕ → ℕ
sample_at h i = (get_or h i 0 + (base + base)) % 2 ^ 64

abbrev pub minute_at : List ℕ → ℕ → ℕ
minute_at h i = sample_at h i / 2

abbrev pub truth_at : List ℕ → ℕ → Bool
truth_at h i = eqb (sample_at h i % 2) 1

-- A history: the samples, and the minute of asking.
module _ (h : List ℕ) (asked : ℕ) where
  -- the minute of sample i; of the first that is not there, the minute after the one of asking
  unfoldable pub edge : ℕ → ℕ
  edge i = cond (ltb i (length h)) (minute_at h i) (asked + 1)

  -- a sample says whether the pattern is true from its minute until the next sample's, the last one through the minute of asking
  abbrev pub speaks_of : ℕ → ℕ → Bool
  speaks_of m i = leb (edge i) m && ltb m (edge (suc i))

  -- the pattern is true at minute m: some sample that speaks of it says so. Outside these minutes it counts as not true
  unfoldable pub true_at : ℕ → Bool
  unfolding every edge
  true_at m = some (λ i. speaks_of m i && truth_at h i) (length h)

  -- 20: times strictly rising, and the minute of asking not before the last sample: each sample speaks of some minute
  unfoldable pub in_order : Bool
  unfolding every edge
  in_order = every (λ i. ltb (edge i) (edge (suc i))) (length h)

-- The eight criteria for the interval from t1 to t2, of a pattern that is true at the minutes τ.
pub record Satisfies (a : Annotation) (τ : ℕ → Bool) (t1 t2 : ℕ) : Type 0 where
  pub holds : (m : ℕ) → t1 ≤ m → m ≤ t2 → τ m ≡ true
  pub admits : Admits base a t1 t2
  -- not true directly before (at the minute m with m + 1 ≡ t1; place 0 of the line has none before it), or the start is the earliest
  -- starting shift plus the reference point
  pub starts : ((m : ℕ) → m + 1 ≡ t1 → τ m ≡ false) ⊎ Exactly base a.reference a.ess t1
  -- not true directly after, or the finish is the latest finishing shift plus the reference point
  pub ends : τ (t2 + 1) ≡ false ⊎ Exactly base a.reference a.lfs t2

-- satisfied: there is such an interval
pub record Satisfied (a : Annotation) (τ : ℕ → Bool) : Type 0 where
  pub t1 : ℕ
  pub t2 : ℕ
  pub satisfies : Satisfies a τ t1 t2

-- satisfiable: there is a continuation of the history, until the minute of asking or any later one, that is satisfied. Neither the range
-- nor the number of samples holds it
pub record Satisfiable (a : Annotation) (τ : ℕ → Bool) (asked : ℕ) : Type 0 where
  pub until : ℕ
  pub later : ℕ → Bool
  pub after : asked ≤ until
  pub same : (m : ℕ) → m ≤ asked → later m ≡ τ m
  pub stops : (m : ℕ) → until < m → later m ≡ false
  pub satisfied : Satisfied a later

-- of samples: 18 a minute out of range, 19 more than 1,024 of them, 20 not in order
unfoldable pub samples_check : List ℕ → ℕ → Outcome
unfolding every in_order
samples_check h asked =
    refuse_if (not (every (λ i. in_range (minute_at h i)) (length h))) ValueRange
    and_then refuse_if (ltb 1024 (length h)) ManySamples
    and_then refuse_if (not (in_order h asked)) TimesOrder

-- 18, of a number of the annotation or the minute of asking as well, 19, 20
unfoldable pub pattern_check : Annotation → List ℕ → ℕ → Outcome
unfolding annotation_in_range samples_check
pattern_check a h asked = refuse_if (not (annotation_in_range a && in_range asked)) ValueRange and_then samples_check h asked

-- The answers that are permitted, of an annotation l, a history h and a minute of asking z as they are handed in.
module _ (l h : List ℕ) (z : ℕ) where
  abbrev pub the_check : Outcome
  the_check = pattern_check (annotation_of l) h (counted z)

  abbrev pub τ : ℕ → Bool
  τ = true_at h (counted z)

  pub data Judged : Result Judgement Refusal → Type 0 where
    refused : {why : Refusal} → the_check ≡ Err why → Judged (Err why)
    -- with the earliest interval that satisfies
    satisfied :
        (t1 t2 : ℕ) → the_check ≡ Done → Satisfies (annotation_of l) τ t1 t2
        → ((u1 u2 : ℕ) → Satisfies (annotation_of l) τ u1 u2 → t1 ≤ u1)
        → Judged (Ok (judgement.Satisfied t1 t2))
    satisfiable :
        the_check ≡ Done → (Satisfied (annotation_of l) τ → ⊥) → Satisfiable (annotation_of l) τ (counted z) → Judged (Ok judgement.Satisfiable)
    neither : the_check ≡ Done → (Satisfiable (annotation_of l) τ (counted z) → ⊥) → Judged (Ok judgement.Neither)
