-- Small questions and what they are answered, by the definitions: 003's own example, others for each criterion, the refusals, and normal
-- forms. A question is an annotation, the samples and the minute of asking. Assumes nothing.
use Prim.Native.Nat.{ℕ, ◌+◌, ◌-◌, ◌*◌, ◌^◌}
use mathlib.Core.Path.{◌≡◌, refl, subst}
use mathlib.Core.List.{List, [], ◌∷◌, ◌++◌}
use lib.ListN.{replicate}
use Rattle.rules.specs.Answers.{◌and_then◌, refuse_if, Done}
use Rattle.rules.specs.declared.Refusal.TheVariants.{ValueRange, ManySamples, TimesOrder, NoInterval, NormalRange}
use Rattle.time.specs.Annotations.{base, counted, none, annotation_of, annotation_in_range}
use Rattle.time.specs.Patterns.{every, edge, in_order, samples_check, pattern_check, Judged, refused}
use Rattle.time.specs.Normal.{normal, Normalised, value_range}
use Rattle.time.specs.Search.{admitted, over, pass_to, goes_on, starts_from, can_be, answer, judgement_of}
use Rattle.time.specs.declared.Judgement.{Judgement}
use Rattle.time.specs.declared.Judgement.TheVariants.{Satisfied, Satisfiable, Neither}
use Rattle.time.proofs.Histories.{judged}
use Rattle.time.proofs.Possibles.{normalised_none, normalised_out, normalised_done}
use Rattle.std.specs.Prelude.{Ok, Err}

-- what the code's way comes to is permitted
shown :
    {l h : List ℕ} {z : ℕ} {j : Judgement} → pattern_check (annotation_of l) h (counted z) ≡ Done
    → judgement_of (annotation_of l) h (counted z) ≡ j
    → Judged l h z (Ok j)
shown {l} {h} {z} done e = subst (λ (x : Judgement). Judged l h z (Ok x)) e (judged l h z done)

-- an annotation; - n; the minutes n and - n as an answer tells them; samples at minutes n and - n
abbrev annotation : ℕ → ℕ → ℕ → ℕ → ℕ → ℕ → ℕ → List ℕ
annotation ess lss efs lfs least greatest reference = ess ∷ lss ∷ efs ∷ lfs ∷ least ∷ greatest ∷ reference ∷ []

abbrev less : ℕ → ℕ
less n = 2 ^ 64 - n

abbrev minute : ℕ → ℕ
minute n = base + n

abbrev before : ℕ → ℕ
before n = base - n

abbrev true_at : ℕ → ℕ
true_at n = 2 * n + 1

abbrev true_before : ℕ → ℕ
true_before n = less (2 * n) + 1

abbrev false_at : ℕ → ℕ
false_at n = 2 * n

-- true from 0 to 10
abbrev T : List ℕ
T = true_at 0 ∷ false_at 11 ∷ []

answers :
    -- true from 0 to 10: the finish is clipped at the latest finish, the start at the earliest start
    Judged (annotation 0 none none 5 0 none 0) T 20 (Ok (Satisfied (minute 0) (minute 5)))
    × Judged (annotation 4 none none none 0 none 0) T 20 (Ok (Satisfied (minute 4) (minute 10)))
    -- asked at 10: nothing is true after the asking. That is too long; a fresh run need not be, but may come too late
    × Judged (annotation 0 none none none 0 none 0) (true_at 0 ∷ []) 10 (Ok (Satisfied (minute 0) (minute 10)))
    × Judged (annotation 0 none none none 0 5 0) (true_at 0 ∷ []) 10 (Ok Satisfiable)
    × Judged (annotation 0 0 none none 0 5 0) (true_at 0 ∷ []) 10 (Ok Neither)
    -- two true samples in a row are one run, and with a false one between they are two; of two that satisfy the first is told
    × Judged (annotation none none none none 5 none 0) (true_at 0 ∷ true_at 3 ∷ false_at 6 ∷ []) 20 (Ok (Satisfied (minute 0) (minute 5)))
    × Judged (annotation none none none none 5 none 0) (true_at 0 ∷ false_at 2 ∷ true_at 3 ∷ false_at 6 ∷ []) 20 (Ok Satisfiable)
    × Judged (annotation none none none none 2 none 0) (true_at 0 ∷ false_at 3 ∷ true_at 7 ∷ []) 20 (Ok (Satisfied (minute 0) (minute 2)))
    -- true up to the asking and not yet for long enough; over before that
    × Judged (annotation none 0 none none 30 none 0) (true_at 0 ∷ []) 10 (Ok Satisfiable)
    × Judged (annotation none 0 none none 30 none 0) (true_at 0 ∷ false_at 8 ∷ []) 10 (Ok Neither)
    -- nothing true by the latest start, which is past
    × Judged (annotation none 5 none none 0 none 0) (false_at 0 ∷ true_at 6 ∷ []) 10 (Ok Neither)
    -- no samples: a run after the asking is in time or is not
    × Judged (annotation none 11 none none 0 none 0) [] 10 (Ok Satisfiable)
    × Judged (annotation none 10 none none 0 none 0) [] 10 (Ok Neither)
    -- a fresh run after a true minute starts two minutes later
    × Judged (annotation none 11 none none 0 3 0) (false_at 0 ∷ []) 10 (Ok Satisfiable)
    × Judged (annotation none 11 none none 0 3 0) (true_at 0 ∷ []) 10 (Ok Neither)
    -- each criterion at its edge, and one beyond: 3 to 6 with the reference point at -60, then the least and the greatest duration
    × Judged (annotation none 60 70 none 0 none (less 60)) T 20 (Ok (Satisfied (minute 0) (minute 10)))
    × Judged (annotation none 60 71 none 0 none (less 60)) T 20 (Ok Neither)
    × Judged (annotation none none none 65 0 none (less 60)) T 20 (Ok (Satisfied (minute 0) (minute 5)))
    × Judged (annotation none none none 5 0 none 0) (true_at 6 ∷ false_at 7 ∷ []) 20 (Ok Neither)
    × Judged (annotation 1 1 none none 0 none 0) (true_at 0 ∷ false_at 1 ∷ []) 20 (Ok Neither)
    × Judged (annotation none 0 none none 11 none 0) T 20 (Ok Neither)
    × Judged (annotation none 0 none none 0 10 0) T 20 (Ok (Satisfied (minute 0) (minute 10)))
    × Judged (annotation none 0 none none 0 9 0) T 20 (Ok Neither)
    -- a run with a false minute just before it; asked at the sample's own minute
    × Judged (annotation none none none none 0 1 0) (true_at 0 ∷ false_at 3 ∷ true_at 4 ∷ false_at 6 ∷ []) 20
    (Ok (Satisfied (minute 4) (minute 5)))
    × Judged (annotation none none none none 0 none 0) (true_at 3 ∷ []) 3 (Ok (Satisfied (minute 3) (minute 3)))
    -- the ends of the range; the number of an open bound; a greatest duration below 0; a continuation beyond the range
    × Judged (annotation (less (10 ^ 9)) (10 ^ 9) (less (10 ^ 9)) (10 ^ 9) (10 ^ 9) none 0) (true_before (10 ^ 9) ∷ []) (10 ^ 9)
    (Ok (Satisfied (before (10 ^ 9)) (minute (10 ^ 9))))
    × Judged (annotation (less (2 ^ 63)) none none none 0 none 0) [] 0 (Ok Satisfiable)
    × Judged (annotation none none none none 0 (less 1) 0) [] 0 (Ok Neither)
    × Judged (annotation none (10 ^ 9) none none 0 none 1) [] (10 ^ 9) (Ok Satisfiable)
    -- 003's example, a level over the last two hours, now being minute 60: true since 90 minutes before minute 0, or since minute 50
    × Judged (annotation (less 120) none none 0 0 none 60) (true_before 90 ∷ []) 60 (Ok (Satisfied (before 60) (minute 60)))
    × Judged (annotation (less 120) none none 0 0 none 60) (true_at 50 ∷ []) 60 (Ok (Satisfied (minute 50) (minute 60)))
    -- the same with a least duration of two hours, which 003 does not print
    × Judged (annotation (less 120) none none 0 120 none 60) (true_before 90 ∷ []) 60 (Ok (Satisfied (before 60) (minute 60)))
    × Judged (annotation (less 120) none none 0 120 none 60) (true_at 50 ∷ []) 60 (Ok Neither)
unfolding
    pattern_check samples_check annotation_in_range in_order edge every ◌and_then◌ refuse_if judgement_of pass_to answer can_be over admitted goes_on
    starts_from
answers = (
  shown refl refl,
  shown refl refl,
  shown refl refl,
  shown refl refl,
  shown refl refl,
  shown refl refl,
  shown refl refl,
  shown refl refl,
  shown refl refl,
  shown refl refl,
  shown refl refl,
  shown refl refl,
  shown refl refl,
  shown refl refl,
  shown refl refl,
  shown refl refl,
  shown refl refl,
  shown refl refl,
  shown refl refl,
  shown refl refl,
  shown refl refl,
  shown refl refl,
  shown refl refl,
  shown refl refl,
  shown refl refl,
  shown refl refl,
  shown refl refl,
  shown refl refl,
  shown refl refl,
  shown refl refl,
  shown refl refl,
  shown refl refl,
  shown refl refl,
)

refusals :
    -- 18: each number, a sample, the least duration below 0 or open, the minute of asking
    Judged (annotation 1000000001 none none none 0 none 0) [] 0 (Err ValueRange)
    × Judged (annotation none 1000000001 none none 0 none 0) [] 0 (Err ValueRange)
    × Judged (annotation none none 1000000001 none 0 none 0) [] 0 (Err ValueRange)
    × Judged (annotation none none none 1000000001 0 none 0) [] 0 (Err ValueRange)
    × Judged (annotation none none none none 1000000001 none 0) [] 0 (Err ValueRange)
    × Judged (annotation none none none none 0 1000000001 0) [] 0 (Err ValueRange)
    × Judged (annotation none none none none 0 none 1000000001) [] 0 (Err ValueRange)
    × Judged (annotation none none none none 0 none 0) (true_before 1000000001 ∷ []) 0 (Err ValueRange)
    × Judged (annotation none none none none (less 1) none 0) [] 0 (Err ValueRange)
    × Judged (annotation none none none none none none 0) [] 0 (Err ValueRange)
    × Judged (annotation none none none none 0 none 0) [] (less 1000000001) (Err ValueRange)
    × Judged (annotation none none none none 0 none 0) (false_at 1000000001 ∷ []) 1000000000 (Err ValueRange)
    -- 19: 1,025 samples, before their order is looked at; 18 before that
    × Judged (annotation none none none none 0 none 0) (replicate 1025 (true_at 0)) 0 (Err ManySamples)
    × Judged (annotation none none none none 0 none 0) (replicate 1025 (true_at 0) ++ (true_at 1000000001 ∷ [])) 0 (Err ValueRange)
    -- 1,024 are not too many
    × Judged (annotation none none none none 0 none 0) (replicate 1024 (true_at 0)) 0 (Err TimesOrder)
    -- 20: equal minutes; the asking before the last sample
    × Judged (annotation none none none none 0 none 0) (true_at 3 ∷ false_at 3 ∷ []) 5 (Err TimesOrder)
    × Judged (annotation none none none none 0 none 0) (true_at 3 ∷ []) 2 (Err TimesOrder)
    -- 18 of the annotation before 20 of the samples, and of the minute of asking before 19
    × Judged (annotation 1000000001 none none none 0 none 0) (true_at 3 ∷ false_at 3 ∷ []) 5 (Err ValueRange)
    × Judged (annotation none none none none 0 none 0) (replicate 1025 (true_at 0)) 1000000001 (Err ValueRange)
unfolding pattern_check samples_check annotation_in_range in_order edge every ◌and_then◌ refuse_if
refusals = (
  refused refl,
  refused refl,
  refused refl,
  refused refl,
  refused refl,
  refused refl,
  refused refl,
  refused refl,
  refused refl,
  refused refl,
  refused refl,
  refused refl,
  refused refl,
  refused refl,
  refused refl,
  refused refl,
  refused refl,
  refused refl,
  refused refl,
)

-- each of the six formulas, from the old values; open bounds that are cut or stay; intervals beyond the range only; then no interval, a
-- bound out of range, 18
normal_forms :
    Normalised (annotation 0 10 0 100 5 20 0) Done (annotation 0 10 5 30 5 20 0)
    × Normalised (annotation 2 10 none 12 0 none 7) Done (annotation 2 10 2 12 0 10 7)
    × Normalised (annotation 0 100 50 60 10 20 0) Done (annotation 30 50 50 60 10 20 0)
    × Normalised (annotation 0 10 30 40 5 100 0) Done (annotation 0 10 30 40 20 40 0)
    × Normalised (annotation none none 50 60 10 20 7) Done (annotation 30 50 50 60 10 20 7)
    × Normalised (annotation (less 5) none none none 3 none 0) Done (annotation (less 5) none (less 2) none 3 none 0)
    × Normalised (annotation (10 ^ 9) none none none 0 none (10 ^ 9)) Done (annotation (10 ^ 9) none (10 ^ 9) none 0 none (10 ^ 9))
    × Normalised (annotation none 0 10 none 0 5 0) (Err NoInterval) (annotation none 0 10 none 0 5 0)
    × Normalised (annotation none none (less (10 ^ 9)) none 0 5 0) (Err NormalRange) (annotation none none (less (10 ^ 9)) none 0 5 0)
    × Normalised (annotation none none none none none none 0) (Err ValueRange) (annotation none none none none none none 0)
unfolding normal annotation_in_range starts_from admitted
normal_forms = (
  normalised_done (annotation 0 10 0 100 5 20 0) _ refl refl refl refl refl,
  normalised_done (annotation 2 10 none 12 0 none 7) _ refl refl refl refl refl,
  normalised_done (annotation 0 100 50 60 10 20 0) _ refl refl refl refl refl,
  normalised_done (annotation 0 10 30 40 5 100 0) _ refl refl refl refl refl,
  normalised_done (annotation none none 50 60 10 20 7) _ refl refl refl refl refl,
  normalised_done (annotation (less 5) none none none 3 none 0) _ refl refl refl refl refl,
  normalised_done (annotation (10 ^ 9) none none none 0 none (10 ^ 9)) _ refl refl refl refl refl,
  normalised_none (annotation none 0 10 none 0 5 0) _ refl refl refl,
  normalised_out (annotation none none (less (10 ^ 9)) none 0 5 0) _ refl refl refl refl,
  value_range refl,
)
