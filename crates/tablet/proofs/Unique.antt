-- One answer: any two that the contract of a function for C permits are equal, and so are the states that `asbru_step` and `asbru_rest`
-- leave, the output that the two moves do and the numbers that `asbru_normalise` does, the contract being as Rattle reads it. And packing
-- loses nothing: a host finds number, plan and step in an answer again, and a refusal's number is never 0. Assumes nothing.
use Prim.Native.Nat.{ℕ, ◌/◌, ◌%◌, ◌^◌, ◌<◌, ◌≤◌}
use native.Mathlib.Omega.{arith}
use mathlib.Core.Path.{◌≡◌, refl, sym, ap, ◌∙◌}
use mathlib.Core.List.{List}
use Rattle.rules.specs.Answers.{place, Rest, Figure}
use Rattle.rules.specs.declared.Refusal.{Refusal}
use Rattle.rules.specs.declared.Refusal.TheVariants.{
  TableShort,
  TableMark,
  TableVersion,
  TableCount,
  TableLength,
  Parent,
  Undefined,
  Unfit,
  Wait,
  Lengths,
  State,
  Word,
  RecordHeader,
  RecordLength,
  Unexplained,
  InputLong,
  RuleNumber,
  ValueRange,
  ManySamples,
  TimesOrder,
  NoInterval,
  Formula,
  NodeKind,
  OutputShort,
  NormalRange,
}
use Rattle.rules.proofs.Unique.{one_answer, by_equation, OneAnswer, OneAnswerLeaving, OneAnswerLeavingTwo}
use Rattle.demands.proofs.Unique.{judged_once}
use Rattle.time.proofs.Unique as time
use Rattle.tablet.proofs.asbru_step.Reads as asbru_step
use Rattle.tablet.proofs.asbru_rest.Reads as asbru_rest
use Rattle.tablet.proofs.asbru_bound.Reads as asbru_bound
use Rattle.tablet.proofs.asbru_check.Reads as asbru_check
use Rattle.tablet.proofs.asbru_to_version_1.Reads as asbru_to_version_1
use Rattle.tablet.proofs.asbru_to_version_2.Reads as asbru_to_version_2
use Rattle.tablet.proofs.asbru_pattern.Reads as asbru_pattern
use Rattle.tablet.proofs.asbru_normalise.Reads as asbru_normalise
use Rattle.tablet.proofs.asbru_with_pattern.Reads as asbru_with_pattern
use Rattle.tablet.specs.Packed.{
  packed,
  packed_refusal,
  packed_outcome,
  packed_rest,
  packed_bound,
  packed_verdict,
  Told,
  packed_judgement,
  PatternTold,
  NormalTold,
}
use Rattle.std.specs.Prelude.{Ok, Err, Some, None}

told_once : (rule : ℕ) (t r : List ℕ) {a b : ℕ} → Told rule t r a → Told rule t r b → a ≡ b
told_once rule t r x y = x.told ∙ ap packed_verdict (judged_once rule t r x.judged y.judged) ∙ sym y.told

pub asbru_check_once : OneAnswer asbru_check.Post
asbru_check_once = record { once = λ κs a z z' e e' h h'. told_once a.0 a.1.0.now a.1.1.0.now h h' }

pub asbru_step_once : OneAnswerLeavingTwo asbru_step.Post (λ e. e.1.1.0.now) (λ e. e.1.1.1.1.0.now)
asbru_step_once κs a z z' e e' h h' = (one_answer h.0 h'.0, one_answer h.1.0 h'.1.0, one_answer h.1.1 h'.1.1)

pub asbru_rest_once : OneAnswerLeavingTwo asbru_rest.Post (λ e. e.1.1.0.now) (λ e. e.1.1.1.1.0.now)
asbru_rest_once κs a z z' e e' h h' = (one_answer h.0 h'.0, one_answer h.1.0 h'.1.0, one_answer h.1.1 h'.1.1)

pub asbru_bound_once : OneAnswer asbru_bound.Post
asbru_bound_once = record { once = λ κs a z z' e e' h h'. one_answer h.0 h'.0 }

pub asbru_to_version_2_once : OneAnswerLeaving asbru_to_version_2.Post (λ e. e.1.0.now)
asbru_to_version_2_once κs a z z' e e' h h' = (one_answer h.0 h'.0, one_answer h.1 h'.1)

pub asbru_to_version_1_once : OneAnswerLeaving asbru_to_version_1.Post (λ e. e.1.0.now)
asbru_to_version_1_once κs a z z' e e' h h' = (one_answer h.0 h'.0, one_answer h.1 h'.1)

pattern_told_once : (l h : List ℕ) (z : ℕ) {a b : ℕ} → PatternTold l h z a → PatternTold l h z b → a ≡ b
pattern_told_once l h z x y = x.told ∙ ap packed_judgement (time.judged_once l h z x.judged y.judged) ∙ sym y.told

pub asbru_pattern_once : OneAnswer asbru_pattern.Post
asbru_pattern_once = record { once = λ κs a z z' e e' h h'. pattern_told_once a.0.now a.1.0.now a.1.1.0 h h' }

normal_told_once : (l : List ℕ) {m n : List ℕ} {a b : ℕ} → NormalTold l m a → NormalTold l n b → (a ≡ b) × (m ≡ n)
normal_told_once l x y =
    let same = time.normalised_once l x.normalised y.normalised in
    (x.told ∙ ap packed_outcome same.0 ∙ sym y.told, same.1)

pub asbru_normalise_once : OneAnswerLeaving asbru_normalise.Post (λ e. e.0.now)
asbru_normalise_once κs a z z' e e' h h' = normal_told_once a.0.now h h'

pub asbru_with_pattern_once : OneAnswer asbru_with_pattern.Post
asbru_with_pattern_once = by_equation

-- how a host takes an answer apart
module _ (number step plan : ℕ) (number_fits : number < 2 ^ 16) (plan_fits : plan < 2 ^ 16) where
  pub number_found : packed number step plan % 2 ^ 16 ≡ number
  number_found = omega arith

  pub plan_found : packed number step plan / 2 ^ 16 % 2 ^ 16 ≡ plan
  plan_found = omega arith

  pub step_found : packed number step plan / 2 ^ 32 ≡ step
  step_found = omega arith

-- nothing is lost: answers that are equal have the same number, step and plan
pub nothing_lost :
    (number step plan number' step' plan' : ℕ) → number < 2 ^ 16 → plan < 2 ^ 16 → number' < 2 ^ 16 → plan' < 2 ^ 16
    → packed number step plan ≡ packed number' step' plan'
    → (number ≡ number') × (step ≡ step') × (plan ≡ plan')
nothing_lost number step plan number' step' plan' a b a' b' e = (omega arith, omega arith, omega arith)

-- a refusal's number is 1 to 26
pub refusal_number : (why : Refusal) → (0 < (place why).number) × ((place why).number ≤ 26)
refusal_number TableShort = (omega arith, omega arith)
refusal_number TableMark = (omega arith, omega arith)
refusal_number TableVersion = (omega arith, omega arith)
refusal_number TableCount = (omega arith, omega arith)
refusal_number TableLength = (omega arith, omega arith)
refusal_number (Parent p) = (omega arith, omega arith)
refusal_number (Undefined p) = (omega arith, omega arith)
refusal_number (Unfit p) = (omega arith, omega arith)
refusal_number (Wait p) = (omega arith, omega arith)
refusal_number Lengths = (omega arith, omega arith)
refusal_number (State p) = (omega arith, omega arith)
refusal_number (Word i p) = (omega arith, omega arith)
refusal_number RecordHeader = (omega arith, omega arith)
refusal_number RecordLength = (omega arith, omega arith)
refusal_number (Unexplained i p) = (omega arith, omega arith)
refusal_number InputLong = (omega arith, omega arith)
refusal_number RuleNumber = (omega arith, omega arith)
refusal_number ValueRange = (omega arith, omega arith)
refusal_number ManySamples = (omega arith, omega arith)
refusal_number TimesOrder = (omega arith, omega arith)
refusal_number NoInterval = (omega arith, omega arith)
refusal_number (Formula i) = (omega arith, omega arith)
refusal_number NodeKind = (omega arith, omega arith)
refusal_number OutputShort = (omega arith, omega arith)
refusal_number NormalRange = (omega arith, omega arith)

-- so two refusals that are packed alike have the same number, step and plan,
pub same_refusal :
    (why why' : Refusal) → (place why).plan < 2 ^ 16 → (place why').plan < 2 ^ 16 → packed_refusal why ≡ packed_refusal why'
    → ((place why).number ≡ (place why').number) × ((place why).step ≡ (place why').step) × ((place why).plan ≡ (place why').plan)
same_refusal why why' fits fits' e =
    nothing_lost _ _ _ _ _ _ (omega (arith, (refusal_number why).1)) fits (omega (arith, (refusal_number why').1)) fits' e

-- and no refusal is packed as what is done, rested, still moving or accepted
pub no_refusal :
    (step plan : ℕ) (why : Refusal) → packed 0 step plan ≡ packed_refusal why → ⊥
no_refusal step plan why e = omega (arith, (refusal_number why).0, (refusal_number why).1)

-- so an answer with number 0 and plan 0 is a figure
pub figure_found : (b : Figure) (k : ℕ) → packed_bound b ≡ packed 0 k 0 → b ≡ Ok (Some k)
figure_found (Ok (Some j)) k e = let same : j ≡ k = omega (arith, e) in rw same refl
figure_found (Ok None) k e = absurd (omega (arith, e))
figure_found (Err why) k e = absurd (no_refusal k 0 why (sym e))

-- and one of the run is a rest after so many steps; with plan 1 the run is still moving, and the step is its budget
pub rest_found : (budget : ℕ) (r : Rest) (k : ℕ) → packed_rest budget r ≡ packed 0 k 0 → r ≡ Ok (Some k)
rest_found budget (Ok (Some j)) k e = let same : j ≡ k = omega (arith, e) in rw same refl
rest_found budget (Ok None) k e = absurd (omega (arith, e))
rest_found budget (Err why) k e = absurd (no_refusal k 0 why (sym e))

pub moving_found : (budget : ℕ) (r : Rest) (k : ℕ) → packed_rest budget r ≡ packed 0 k 1 → (r ≡ Ok None) × (k ≡ budget)
moving_found budget (Ok (Some j)) k e = absurd (omega (arith, e))
moving_found budget (Ok None) k e = (refl, omega (arith, e))
moving_found budget (Err why) k e = absurd (no_refusal k 1 why (sym e))
