-- One verdict: any two that are permitted on a record by a rule are equal, so are any two on an input of the program, and the program may
-- print one line only. Assumes nothing.
use Prim.Native.Nat.{ℕ, suc, ◌<◌}
use native.Mathlib.Omega.{arith}
use mathlib.Core.Path.{◌≡◌, refl, sym, ◌∙◌, ap, subst}
use mathlib.Core.List.{List}
use Rattle.rules.specs.Table.{plan_count}
use Rattle.rules.specs.Record.{step_count, ExplainedFirst}
use Rattle.rules.specs.Answers.{record_check, words_check, StepPasses, Judged, malformed, bad_words, unexplained, accepted, Outcome, Verdict, Done}
use Rattle.rules.specs.Program.{line, Answered, too_long, judged, Printed}
use Rattle.rules.specs.declared.Refusal.{Refusal}
use Rattle.rules.specs.declared.Refusal.TheVariants.{Unexplained}
use Rattle.demands.proofs.Numbers.{not_lower}
use Rattle.demands.proofs.PlanByPlan.{explained_fewer}
use Rattle.std.specs.Prelude.{Ok, Err}

-- an outcome is one thing
done_or_refused : {A : Type 0} {o : Outcome} {why : Refusal} → o ≡ Done → o ≡ Err why → A
done_or_refused d e = let z : ◌≡◌ {A = ℕ} 0 1 = cc in absurd (omega arith)

same_reason : {o : Outcome} {why why' : Refusal} → o ≡ Err why → o ≡ Err why' → why ≡ why'
same_reason d e = cc

-- A record whose form is good: it ends at the first step that fails, or not at all.
module _ (rule : ℕ) (t r : List ℕ) where
  data Fails (i : ℕ) : Verdict → Type 0 where
    at_words : {why : Refusal} → words_check t r i ≡ Err why → Fails i (Err why)
    at_plan :
        (p : ℕ) → words_check t r i ≡ Done → p < plan_count t → ((j : ℕ) → j < p → ExplainedFirst rule t r i (suc j))
        → (ExplainedFirst rule t r i (suc p) → ⊥)
        → Fails i (Err (Unexplained (suc i) p))

  data Ends : Verdict → Type 0 where
    stops : {v : Verdict} (i : ℕ) → i < step_count t r → ((j : ℕ) → j < i → StepPasses rule t r j) → Fails i v → Ends v
    whole : ((i : ℕ) → i < step_count t r → StepPasses rule t r i) → Ends (Ok (step_count t r))

  fails_not : {i : ℕ} {v : Verdict} → Fails i v → StepPasses rule t r i → ⊥
  fails_not (at_words e) p = done_or_refused p.words e
  fails_not {i} (at_plan k d l below n) p = n (explained_fewer rule t _ _ _ (suc k) (plan_count t) l p.states)

  fails_once : {i : ℕ} {v v' : Verdict} → Fails i v → Fails i v' → v ≡ v'
  fails_once (at_words e) (at_words e') = ap Err (same_reason e e')
  fails_once (at_words e) (at_plan p d l below n) = done_or_refused d e
  fails_once (at_plan p d l below n) (at_words e) = done_or_refused d e
  fails_once {i} (at_plan p d l below n) (at_plan p' d' l' below' n') =
      ap (λ (k : ℕ). Err (Unexplained (suc i) k)) (not_lower p p' (λ h. n (below' p h)) (λ h. n' (below p' h)))

  ends_once : {v v' : Verdict} → Ends v → Ends v' → v ≡ v'
  ends_once {v} {v'} (stops i l before f) (stops j l' before' f') = fails_once f (subst (λ (k : ℕ). Fails k v') (sym e) f')
    where
      e : i ≡ j
      e = not_lower i j (λ h. fails_not f (before' i h)) (λ h. fails_not f' (before j h))
  ends_once (stops i l before f) (whole p) = absurd (fails_not f (p i l))
  ends_once (whole p) (stops i l before f) = absurd (fails_not f (p i l))
  ends_once (whole p) (whole p') = refl

  judged_ends : {v : Verdict} → record_check rule t r ≡ Done → Judged rule t r v → Ends v
  judged_ends d (malformed e) = done_or_refused d e
  judged_ends d (bad_words i _ l before e) = stops i l before (at_words e)
  judged_ends d (unexplained i p _ l before e h below n) = stops i l before (at_plan p e h below n)
  judged_ends d (accepted _ p) = whole p

  judged_refused : {v : Verdict} (why : Refusal) → record_check rule t r ≡ Err why → Judged rule t r v → v ≡ Err why
  judged_refused why e (malformed e') = ap Err (same_reason e' e)
  judged_refused why e (bad_words i d l before x) = done_or_refused d e
  judged_refused why e (unexplained i p d l before x h below n) = done_or_refused d e
  judged_refused why e (accepted d p) = done_or_refused d e

  pub judged_once : {v v' : Verdict} → Judged rule t r v → Judged rule t r v' → v ≡ v'
  judged_once {v} {v'} a b = go (record_check rule t r) refl
    where
      go : (o : Outcome) → record_check rule t r ≡ o → v ≡ v'
      go (Ok tt) e = ends_once (judged_ends e a) (judged_ends e b)
      go (Err why) e = judged_refused why e a ∙ sym (judged_refused why e b)

pub answered_once : (input : List ℕ) {v v' : Verdict} → Answered input v → Answered input v' → v ≡ v'
answered_once input (too_long l) (too_long l') = refl
answered_once input (too_long l) (judged l' b) = absurd (omega arith)
answered_once input (judged l a) (too_long l') = absurd (omega arith)
answered_once input (judged l a) (judged l' b) = judged_once _ _ _ a b

pub printed_once : (input out out' : List ℕ) → Printed input out → Printed input out' → out ≡ out'
printed_once input out out' a b =
    a.printed ∙ ap (line (plan_count input)) (answered_once input a.answered b.answered) ∙ sym b.printed
