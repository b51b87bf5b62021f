-- What a host makes of the answers about patterns: bits 16 and 17 of an answer decide satisfied and satisfiable, both ways; and words made
-- of answers pass what check 12 asks of them. Assumes nothing.
use Prim.Native.Nat.{ℕ, ◌%◌, ◌^◌}
use native.Mathlib.Omega.{arith}
use mathlib.Core.Path.{◌≡◌, refl, sym, subst}
use mathlib.Core.Bool.{Bool, true, false, cond, ◌&&◌, false≢true}
use mathlib.Core.List.{List}
use borrow.Author.Tests.{eqb-true}
use lib.Dec.{eqb, leb}
use Rattle.rules.specs.Answers.{wrong_word_if, Done}
use Rattle.rules.specs.Bytes.{is_set}
use Rattle.rules.specs.Words.{with_pattern}
use Rattle.rules.specs.declared.Refusal.{Refusal}
use Rattle.std.specs.Prelude.{Result}
use Rattle.rules.specs.declared.Body.{Body}
use Rattle.rules.proofs.Known.{fits, still_passes}
use Rattle.time.specs.Annotations.{counted, annotation_of}
use Rattle.time.specs.Patterns.{true_at, Satisfied, Satisfiable, pattern_check, Judged, refused, satisfied, satisfiable, neither}
use Rattle.time.specs.declared.Judgement.{Judgement}
use Rattle.time.proofs.Histories.{order}
use Rattle.time.proofs.Theorems.{satisfied_is_satisfiable}
use Rattle.tablet.specs.Packed.{packed_judgement, PatternTold, pattern_of, with_answer}
use Rattle.tablet.proofs.Unique.{refusal_number}

-- a test decides a statement
pub record Decides (b : Bool) (P : Type 0) : Type 0 where
  pub sound : b ≡ true → P
  pub complete : P → b ≡ true

confirmed : {P : Type 0} → P → Decides true P
confirmed p = record { sound = λ e. p; complete = λ p. refl }

refuted : {P : Type 0} → (P → ⊥) → Decides false P
refuted no_p = record { sound = λ e. absurd (false≢true e); complete = λ p. absurd (no_p p) }

module _ (l h : List ℕ) (z : ℕ) where
  abbrev now : Type 0
  now = Satisfied (annotation_of l) (true_at h (counted z))

  abbrev still : Type 0
  still = Satisfiable (annotation_of l) (true_at h (counted z)) (counted z)

  still_too : pattern_check (annotation_of l) h (counted z) ≡ Done → now → still
  still_too c y = satisfied_is_satisfiable (annotation_of l) h (counted z) (order h (counted z) (annotation_of l) c) y

  -- an answer whose number is 0
  abbrev Both : ℕ → Type 0
  Both answer = Decides (is_set 16 answer) now × Decides (is_set 17 answer) still × (is_set 16 answer ≡ true → is_set 17 answer ≡ true)

  both : {j : Result Judgement Refusal} → Judged l h z j → packed_judgement j % 2 ^ 16 ≡ 0 → Both (packed_judgement j)
  both (refused {why} c) e = absurd (omega (arith, (refusal_number why).0, (refusal_number why).1))
  both (satisfied t1 t2 c y k) e =
      let found : now = record { t1 = t1; t2 = t2; satisfies = y } in
      (confirmed found, confirmed (still_too c found), λ e. refl)
  both (satisfiable c n y) e = (refuted n, confirmed y, λ e. refl)
  both (neither c n) e = (refuted (λ y. n (still_too c y)), refuted n, λ e. e)

  pub answer_decides : (answer : ℕ) → PatternTold l h z answer → answer % 2 ^ 16 ≡ 0 → Both answer
  answer_decides answer y e =
      subst Both (sym y.told) (both y.judged (subst (λ (r : ℕ). r % 2 ^ 16 ≡ 0) y.told e))

  -- the word that a host makes passes check 12, if the one before did and the pattern is one that the plan can have
  pub made_passes :
      (answer : ℕ) → PatternTold l h z answer → (word condition : ℕ) (body : Body) (allowed : Bool)
      → wrong_word_if body allowed word ≡ false → fits (pattern_of condition) body
      → wrong_word_if body allowed (with_answer word condition answer) ≡ false
  made_passes answer y word condition body allowed passes fit = go (eqb (answer % 2 ^ 16) 0) refl (leb condition 6)
    where
      go :
          (zero : Bool) → eqb (answer % 2 ^ 16) 0 ≡ zero → (known : Bool)
          → wrong_word_if body allowed
          (cond (zero && known) (with_pattern (pattern_of condition) (is_set 16 answer) (is_set 17 answer) word) word)
          ≡ false
      go false e known = passes
      go true e false = passes
      go true e true =
          let decided = answer_decides answer y (eqb-true (answer % 2 ^ 16) 0 e) in
          still_passes (is_set 16 answer) (is_set 17 answer)
          decided.2 word body allowed passes (pattern_of condition) fit
