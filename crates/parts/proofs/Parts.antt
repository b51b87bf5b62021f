-- Where a step's bytes lie in a record. Assumes nothing.
use Prim.Native.Nat.{ℕ, ◌+◌, ◌*◌, ◌≤◌, ◌<◌}
use native.Mathlib.Nat.{mul-le-mul_right, suc-mul}
use mathlib.Core.Path.{subst}

-- a step's bytes lie before those of the next
pub room : (i z k : ℕ) → i < k → i * z + z ≤ k * z
room i z k h = subst (λ (j : ℕ). j ≤ k * z) (suc-mul i z) (mul-le-mul_right z h)
