-- Two children by their words: the tests that the code makes of a word, and what they say of the first and the second child. Assumes
-- nothing.
use Prim.Native.Nat.{ℕ, ◌+◌, ◌*◌, ◌%◌}
use mathlib.Core.Path.{◌≡◌, refl}
use mathlib.Core.Bool.{Bool, true, false, not, ◌&&◌, ◌||◌, beq}
use mathlib.Core.List.{List, [], ◌∷◌}
use lib.Dec.{T, eqb}
use Rattle.rules.specs.States.{one_of, is, ended}
use Rattle.rules.specs.Step.{after_abort, both_ended}
use Rattle.rules.specs.declared.Body.{Body}
use Rattle.rules.specs.declared.PlanState.{PlanState}
use Rattle.rules.specs.declared.PlanState.TheVariants.{Inactive, Completed, Aborted, Rejected}
use Rattle.rules.proofs.Digits.{bit}
use Rattle.demands.proofs.States.{every, of_every}

-- the word of two tests: both pass, and the first does
pub both_pass : (a b : Bool) → eqb (bit a + 2 * bit b) 3 ≡ (a && b)
both_pass true true = refl
both_pass true false = refl
both_pass false true = refl
both_pass false false = refl

pub first_passes : (a b : Bool) → eqb ((bit a + 2 * bit b) % 2) 1 ≡ a
first_passes true true = refl
first_passes true false = refl
first_passes false true = refl
first_passes false false = refl

-- the word of two children that are in one of a few states
abbrev word_of : PlanState → PlanState → List PlanState → ℕ
word_of first second ys = bit (one_of ys first) + 2 * bit (one_of ys second)

-- both count as ended, as the code asks it of the words
abbrev asked : Bool → PlanState → PlanState → Bool
asked after first second =
    eqb (word_of first second (Inactive ∷ Completed ∷ Rejected ∷ Aborted ∷ [])) 3
    && not (eqb (word_of first second (Completed ∷ Rejected ∷ Aborted ∷ [])) 0)
    && not (after && eqb (word_of first second (Aborted ∷ [])) 1 && eqb (word_of first second (Inactive ∷ [])) 2)

abbrev defined : Bool → PlanState → PlanState → Bool
defined after first second =
    (ended first || is Inactive first && ended second)
    && (ended second || is Inactive second && ended first && not (after && is Aborted first))

agree : (a b : Bool) → T (beq a b) → a ≡ b
agree true true h = refl
agree false false h = refl
agree false true h = elim h [ ]
agree true false h = elim h [ ]

all_agree : (after : Bool) → T (every (λ f. every (λ s. beq (asked after f s) (defined after f s))))
all_agree true = tt
all_agree false = tt

asked_is : (body : Body) (first second : PlanState) → asked (after_abort body) first second ≡ both_ended body first second
asked_is body first second =
    let after = after_abort body in
    agree (asked after first second) (defined after first second)
    (of_every (λ s. beq (asked after first s) (defined after first s))
    (of_every (λ f. every (λ s. beq (asked after f s) (defined after f s))) (all_agree after) first) second)

pub both_ended_is :
    (body : Body) (first second : PlanState) {either over aborted idle : ℕ} {after : Bool}
    → either ≡ word_of first second (Inactive ∷ Completed ∷ Rejected ∷ Aborted ∷ [])
    → over ≡ word_of first second (Completed ∷ Rejected ∷ Aborted ∷ []) → aborted ≡ word_of first second (Aborted ∷ [])
    → idle ≡ word_of first second (Inactive ∷ []) → after ≡ after_abort body
    → (eqb either 3 && not (eqb over 0) && not (after && eqb aborted 1 && eqb idle 2)) ≡ both_ended body first second
both_ended_is body first second ee eo ea ei eb = rw (ee, eo, ea, ei, eb) (asked_is body first second)
