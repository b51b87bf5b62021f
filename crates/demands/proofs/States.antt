-- Laws of the nine states: codes tell them apart, and what is computed for each of them holds of all. Assumes nothing.
use Prim.Native.Nat.{ℕ, zero, suc, ◌<◌}
use native.Mathlib.Omega.{arith}
use mathlib.Core.Bool.{Bool, true, ◌&&◌, or-false}
use mathlib.Core.Path.{◌≡◌, refl, sym, ◌∙◌, ap}
use mathlib.Core.List.{List, [], ◌∷◌}
use lib.ListN.{get_or, length}
use lib.Dec.{T, eqb→eq, ltb→lt}
use Rattle.rules.specs.States.{code, by_code, is_code, state_of, is}
use Rattle.rules.specs.declared.PlanState.{PlanState}
use Rattle.rules.specs.declared.PlanState.TheVariants.{
  Inactive,
  Considered,
  Possible,
  Ready,
  Activated,
  Suspended,
  Completed,
  Aborted,
  Rejected,
}
use Rattle.demands.proofs.Tests.{left, right, ◌⇒◌, given}

pub state_of_code : (x : PlanState) → state_of (code x) ≡ x
state_of_code Inactive = refl
state_of_code Considered = refl
state_of_code Possible = refl
state_of_code Ready = refl
state_of_code Activated = refl
state_of_code Suspended = refl
state_of_code Completed = refl
state_of_code Aborted = refl
state_of_code Rejected = refl

pub code_is_code : (x : PlanState) → T (is_code (code x))
code_is_code Inactive = tt
code_is_code Considered = tt
code_is_code Possible = tt
code_is_code Ready = tt
code_is_code Activated = tt
code_is_code Suspended = tt
code_is_code Completed = tt
code_is_code Aborted = tt
code_is_code Rejected = tt

-- a state that is one of a list of one is that one
pub is_it : (y x : PlanState) → T (is y x) → x ≡ y
is_it y x h = sym (state_of_code x) ∙ ap state_of (eqb→eq (code x) (code y) (rw or-false at h)) ∙ state_of_code y

-- a test that all states of a list pass, and that all nine pass
abbrev all_of : (PlanState → Bool) → List PlanState → Bool
all_of f [] = true
all_of f (x ∷ xs) = f x && all_of f xs

abbrev pub every : (PlanState → Bool) → Bool
every f = all_of f by_code

passed : (f : PlanState → Bool) (xs : List PlanState) → T (all_of f xs) → (i : ℕ) → i < length xs → T (f (get_or xs i Rejected))
passed f [] h i l = absurd (omega arith)
passed f (x ∷ xs) h zero l = left (f x) (all_of f xs) h
passed f (x ∷ xs) h (suc i) l = passed f xs (right (f x) (all_of f xs) h) i (omega arith)

pub of_every : (f : PlanState → Bool) → T (every f) → (x : PlanState) → T (f x)
of_every f h x = rw (state_of_code x) at (passed f by_code h (code x) (ltb→lt (code x) (length by_code) (code_is_code x)))

-- from one test to another, of a state and of two states
pub states : (f g : PlanState → Bool) → T (every (λ x. f x ⇒ g x)) → (x : PlanState) → T (f x) → T (g x)
states f g h x = given (f x) (g x) (of_every (λ y. f y ⇒ g y) h x)

pub pairs :
    (f g : PlanState → PlanState → Bool) → T (every (λ x. every (λ y. f x y ⇒ g x y))) → (x y : PlanState) → T (f x y) → T (g x y)
pairs f g h x = states (f x) (g x) (of_every (λ z. every (λ y. f z y ⇒ g z y)) h x)
