-- Laws of the states' codes: the state that a byte stands for, and tests of a state by its byte. Assumes nothing.
use Prim.Native.Nat.{ℕ, zero, suc, ◌<◌}
use native.Mathlib.Decide.{dec_lt}
use native.Mathlib.Omega.{arith}
use mathlib.Core.Path.{◌≡◌, refl, sym, ap, ◌∙◌}
use mathlib.Core.Bool.{Bool, false, ◌&&◌, or-false}
use mathlib.Core.List.{List}
use lib.Dec.{eqb, leb}
use lib.ListN.{get_or-eq_default}
use borrow.Author.Tests.{ne_eqb}
use Rattle.rules.specs.Bytes.{byte_at}
use Rattle.rules.specs.States.{code, by_code, state_of, state_at, is, in_selection, in_execution, ended, has_run}
use Rattle.rules.specs.declared.PlanState.{PlanState}
use Rattle.rules.specs.declared.PlanState.TheVariants.{
  Inactive,
  Considered,
  Possible,
  Ready,
  Activated,
  Suspended,
  Completed,
  Aborted,
  Rejected,
}

pub state_is : (s : List ℕ) (p : ℕ) → state_at s p ≡ state_of (byte_at s p)
unfolding state_at
state_is s p = refl

-- the groups, by the first and the last code of each
abbrev pub from_to : PlanState → PlanState → ℕ → Bool
from_to low high b = leb (code low) b && leb b (code high)

pub groups :
    (state : PlanState)
    → (from_to Considered Ready (code state) ≡ in_selection state) × (from_to Activated Suspended (code state) ≡ in_execution state)
    × (from_to Completed Rejected (code state) ≡ ended state) × (from_to Activated Aborted (code state) ≡ has_run state)
groups Inactive = (refl, refl, refl, refl)
groups Considered = (refl, refl, refl, refl)
groups Possible = (refl, refl, refl, refl)
groups Ready = (refl, refl, refl, refl)
groups Activated = (refl, refl, refl, refl)
groups Suspended = (refl, refl, refl, refl)
groups Completed = (refl, refl, refl, refl)
groups Aborted = (refl, refl, refl, refl)
groups Rejected = (refl, refl, refl, refl)

-- there are nine codes
pub code_lt : (state : PlanState) → code state < 9
code_lt Inactive = omega arith
code_lt Considered = omega arith
code_lt Possible = omega arith
code_lt Ready = omega arith
code_lt Activated = omega arith
code_lt Suspended = omega arith
code_lt Completed = omega arith
code_lt Aborted = omega arith
code_lt Rejected = omega arith

-- the code of the state that a code stands for
pub code_of : (b : ℕ) → b < 9 → code (state_of b) ≡ b
code_of zero l = refl
code_of (suc zero) l = refl
code_of (suc (suc zero)) l = refl
code_of (suc (suc (suc zero))) l = refl
code_of (suc (suc (suc (suc zero)))) l = refl
code_of (suc (suc (suc (suc (suc zero))))) l = refl
code_of (suc (suc (suc (suc (suc (suc zero)))))) l = refl
code_of (suc (suc (suc (suc (suc (suc (suc zero))))))) l = refl
code_of (suc (suc (suc (suc (suc (suc (suc (suc zero)))))))) l = refl
code_of (suc (suc (suc (suc (suc (suc (suc (suc (suc b))))))))) l = absurd (omega arith)

-- a code is tested for that of a state
pub test_code : (x : PlanState) (b : ℕ) → b < 9 → eqb b (code x) ≡ is x (state_of b)
test_code x b l = ap (λ (k : ℕ). eqb k (code x)) (sym (code_of b l)) ∙ sym (or-false _)

-- and so is any byte, for a state but Rejected: one that is no code counts as Rejected
pub test_byte : (x : PlanState) → is x Rejected ≡ false → (b : ℕ) → eqb b (code x) ≡ is x (state_of b)
test_byte x e b = go (dec_lt b 9)
  where
    go : Dec (b < 9) → eqb b (code x) ≡ is x (state_of b)
    go (yes l) = test_code x b l
    go (no l) =
        rw (get_or-eq_default by_code Rejected {n = b} (omega arith))
        (ne_eqb b (code x) (λ z. omega (arith, code_lt x)) ∙ sym e)
