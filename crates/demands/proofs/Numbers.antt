-- Laws of numbers: the last of a row or an earlier one, and equality from order. Assumes nothing.
use Prim.Native.Nat.{ℕ, suc, ◌<◌}
use native.Mathlib.Omega.{arith}
use native.Mathlib.Decide.{ℕ_discrete, dec_lt}
use mathlib.Core.Path.{◌≡◌}
use mathlib.Core.Logic.{◌⊎◌, inl, inr}

-- the last of the first k + 1, or an earlier one
pub last_or : (p k : ℕ) → p < suc k → (p ≡ k) ⊎ (p < k)
last_or p k h = go (ℕ_discrete p k)
  where
    go : Dec (p ≡ k) → (p ≡ k) ⊎ (p < k)
    go (yes e) = inl e
    go (no n) = inr (omega arith)

-- two numbers, neither of which may be lower
pub not_lower : (c d : ℕ) → (c < d → ⊥) → (d < c → ⊥) → c ≡ d
not_lower c d f g = go (dec_lt c d) (dec_lt d c)
  where
    go : Dec (c < d) → Dec (d < c) → c ≡ d
    go (yes x) y = absurd (f x)
    go (no x) (yes y) = absurd (g y)
    go (no x) (no y) = omega arith
