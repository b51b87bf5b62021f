-- One answer: any two judgements that are permitted are equal, and so are any two answers of normalising and what they leave. And the
-- interval that is told is the only one with its start. Assumes nothing.
use Prim.Native.Nat.{ℕ, ◌+◌, ◌≤◌, ◌<◌}
use native.Mathlib.Omega.{arith}
use native.Mathlib.Decide.{dec_lt}
use mathlib.Core.Path.{◌≡◌, refl, sym, ◌∙◌, ap, subst}
use mathlib.Core.Logic.{◌⊎◌, inl, inr}
use mathlib.Core.Bool.{Bool, false}
use mathlib.Core.List.{List}
use Rattle.rules.specs.declared.Refusal.{Refusal}
use Rattle.rules.proofs.Outcomes.{refused_not_done}
use Rattle.time.specs.Annotations.{base, counted, annotation_of, Exactly, NotLater}
use Rattle.time.specs.Patterns.{
  true_at,
  Satisfies,
  Satisfiable,
  pattern_check,
  Judged,
  refused,
  satisfied,
  satisfiable,
  neither,
}
use Rattle.time.specs.Normal.{Normalised, value_range, no_interval, normal_range, done}
use Rattle.time.specs.declared.Annotation.{Annotation}
use Rattle.time.specs.declared.Judgement.{Judgement}
use Rattle.time.specs.declared.Judgement.TheVariants as judgement
use Rattle.time.proofs.Tests.{clash}
use Rattle.time.proofs.Histories.{order}
use Rattle.time.proofs.Theorems.{satisfied_is_satisfiable}
use Rattle.std.specs.Prelude.{Err, Option, Result, Ok}
use Rattle.rules.specs.Answers.{Outcome, Done}

-- a finish at the bound is the last that is possible
last_at : (r : ℕ) (x : Option ℕ) (t u : ℕ) → Exactly base r x t → NotLater base r x u → u ≤ t
last_at r x t u e l = grind arith

-- of two intervals that satisfy and start together none goes on beyond the other
no_longer : (a : Annotation) (τ : ℕ → Bool) (t1 t2 u2 : ℕ) → Satisfies a τ t1 t2 → Satisfies a τ t1 u2 → u2 ≤ t2
no_longer a τ t1 t2 u2 x y = go (dec_lt t2 u2) x.ends
  where
    go : Dec (t2 < u2) → (τ (t2 + 1) ≡ false) ⊎ Exactly base a.reference a.lfs t2 → u2 ≤ t2
    go (no d) e = omega arith
    go (yes d) (inl e) = let o : t1 ≤ t2 = x.admits.ordered in clash (y.holds (t2 + 1) (omega arith) (omega arith)) e
    go (yes d) (inr e) = last_at a.reference a.lfs t2 u2 e y.admits.lfs

pub one_finish : (a : Annotation) (τ : ℕ → Bool) (t1 t2 u2 : ℕ) → Satisfies a τ t1 t2 → Satisfies a τ t1 u2 → t2 ≡ u2
one_finish a τ t1 t2 u2 x y =
    let p = no_longer a τ t1 t2 u2 x y in
    let q = no_longer a τ t1 u2 t2 y x in
    omega arith

done_or_refused : {A : Type 0} {o : Outcome} {why : Refusal} → o ≡ Done → o ≡ Err why → A
done_or_refused {A} {o} {why} d e = refused_not_done why (sym e ∙ d)

same_reason : {o : Outcome} {why why' : Refusal} → o ≡ Err why → o ≡ Err why' → why ≡ why'
same_reason d e = cc

module _ (l h : List ℕ) (z : ℕ) where
  abbrev a : Annotation
  a = annotation_of l

  abbrev τ : ℕ → Bool
  τ = true_at h (counted z)

  same_interval :
      (t1 t2 u1 u2 : ℕ) → Satisfies a τ t1 t2 → Satisfies a τ u1 u2 → t1 ≤ u1 → u1 ≤ t1
      → judgement.Satisfied t1 t2 ≡ judgement.Satisfied u1 u2
  same_interval t1 t2 u1 u2 x y k m =
      let start : t1 ≡ u1 = omega arith in
      let moved : Satisfies a τ t1 u2 = subst (λ (t : ℕ). Satisfies a τ t u2) (sym start) y in
      ap (λ (t : ℕ). judgement.Satisfied t1 t) (one_finish a τ t1 t2 u2 x moved) ∙ ap (λ (t : ℕ). judgement.Satisfied t u2) start

  -- what is satisfied is not past hope
  not_neither :
      (t1 t2 : ℕ) → pattern_check a h (counted z) ≡ Done → Satisfies a τ t1 t2 → (Satisfiable a τ (counted z) → ⊥) → ⊥
  not_neither t1 t2 c x n =
      n (satisfied_is_satisfiable a h (counted z) (order h (counted z) a c) (record { t1 = t1; t2 = t2; satisfies = x }))

  pub judged_once : {x y : Result Judgement Refusal} → Judged l h z x → Judged l h z y → x ≡ y
  judged_once (refused d) (refused e) = ap Err (same_reason d e)
  judged_once (refused d) (satisfied u1 u2 c y m) = done_or_refused c d
  judged_once (refused d) (satisfiable c n y) = done_or_refused c d
  judged_once (refused d) (neither c n) = done_or_refused c d
  judged_once (satisfied t1 t2 c x k) (refused e) = done_or_refused c e
  judged_once (satisfied t1 t2 c x k) (satisfied u1 u2 c' y m) = ap Ok (same_interval t1 t2 u1 u2 x y (k u1 u2 y) (m t1 t2 x))
  judged_once (satisfied t1 t2 c x k) (satisfiable c' n y) = absurd (n (record { t1 = t1; t2 = t2; satisfies = x }))
  judged_once (satisfied t1 t2 c x k) (neither c' n) = absurd (not_neither t1 t2 c x n)
  judged_once (satisfiable c n y) (refused e) = done_or_refused c e
  judged_once (satisfiable c n y) (satisfied t1 t2 c' x k) = absurd (n (record { t1 = t1; t2 = t2; satisfies = x }))
  judged_once (satisfiable c n y) (satisfiable c' n' y') = refl
  judged_once (satisfiable c n y) (neither c' n') = absurd (n' y)
  judged_once (neither c n) (refused e) = done_or_refused c e
  judged_once (neither c n) (satisfied t1 t2 c' x k) = absurd (not_neither t1 t2 c' x n)
  judged_once (neither c n) (satisfiable c' n' y) = absurd (n y)
  judged_once (neither c n) (neither c' n') = refl

pub normalised_once :
    (l : List ℕ) {x y : Outcome} {m n : List ℕ} → Normalised l x m → Normalised l y n → (x ≡ y) × (m ≡ n)
normalised_once l (value_range d) (value_range e) = (refl, refl)
normalised_once l (value_range d) (no_interval e q) = clash e d
normalised_once l (value_range d) (normal_range e q o) = clash e d
normalised_once l (value_range d) (done e q i) = clash e d
normalised_once l (no_interval d p) (value_range e) = clash d e
normalised_once l (no_interval d p) (no_interval e q) = (refl, refl)
normalised_once l (no_interval d p) (normal_range e q o) = absurd (p q)
normalised_once l (no_interval d p) (done e q i) = absurd (p q)
normalised_once l (normal_range d p o) (value_range e) = clash d e
normalised_once l (normal_range d p o) (no_interval e q) = absurd (q p)
normalised_once l (normal_range d p o) (normal_range e q o') = (refl, refl)
normalised_once l (normal_range d p o) (done e q i) = clash i o
normalised_once l (done d p i) (value_range e) = clash d e
normalised_once l (done d p i) (no_interval e q) = absurd (q p)
normalised_once l (done d p i) (normal_range e q o) = clash i o
normalised_once l (done d p i) (done e q i') = (refl, refl)
