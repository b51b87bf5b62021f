-- Laws of `least`: what one turn of a search for the least number tells, and what has been found. Assumes nothing.
use Prim.Native.Nat.{ℕ, zero, suc, ◌+◌, ◌-◌, ◌≤◌, ◌<◌}
use native.Mathlib.Decide.{ℕ_discrete}
use native.Mathlib.Omega.{arith}
use mathlib.Core.Path.{◌≡◌, refl}
use mathlib.Core.Bool.{Bool, true, false}
use Rattle.rules.specs.Lists.{least_from}
use Rattle.std.specs.Prelude.{Option, Some, None}

module _ (f : ℕ → Bool) (p n : ℕ) where
  pub least_here : p < n → f p ≡ true → least_from f p (n - p) ≡ Some p
  unfolding least_from
  least_here h e =
      let k : n - p ≡ suc (n - (p + 1)) = omega arith in
      rw k (rw (e, least_from))

  pub least_more : p < n → f p ≡ false → least_from f p (n - p) ≡ least_from f (p + 1) (n - (p + 1))
  unfolding least_from
  least_more h e =
      let k : n - p ≡ suc (n - (p + 1)) = omega arith in
      rw k (rw (e, least_from))

  pub least_end : n ≤ p → least_from f p (n - p) ≡ None
  unfolding least_from
  least_end h =
      let k : n - p ≡ 0 = omega arith in
      rw k

-- where nothing was found, no number passes the test
nowhere_from : (f : ℕ → Bool) (p k : ℕ) → least_from f p k ≡ None → (j : ℕ) → p ≤ j → j < p + k → f j ≡ false
unfolding least_from
nowhere_from f p zero h j l m = absurd (omega arith)
nowhere_from f p (suc k) h j l m = go (f p) refl h (nowhere_from f (p + 1) k) (ℕ_discrete j p)
  where
    go :
        (b : Bool) → f p ≡ b → elim b as (λ _. Option ℕ) [ true ↦ Some p | false ↦ least_from f (p + 1) k ] ≡ None
        → (least_from f (p + 1) k ≡ None → (i : ℕ) → p + 1 ≤ i → i < p + 1 + k → f i ≡ false) → Dec (j ≡ p) → f j ≡ false
    go true e x ih d = let z : ◌≡◌ {A = ℕ} 0 1 = cc in absurd (omega arith)
    go false e x ih (yes y) = rw y e
    go false e x ih (no y) = ih x j (omega arith) (omega arith)

pub nowhere : (f : ℕ → Bool) (n : ℕ) → least_from f 0 n ≡ None → (j : ℕ) → j < n → f j ≡ false
nowhere f n h j l = nowhere_from f 0 n h j (omega arith) (omega arith)

-- and below what was found
passed_from : (f : ℕ → Bool) (p k r : ℕ) → least_from f p k ≡ Some r → (j : ℕ) → p ≤ j → j < r → f j ≡ false
unfolding least_from
passed_from f p zero r h j l m = let z : ◌≡◌ {A = ℕ} 0 1 = cc in absurd (omega arith)
passed_from f p (suc k) r h j l m = go (f p) refl h (passed_from f (p + 1) k r) (ℕ_discrete j p)
  where
    go :
        (b : Bool) → f p ≡ b → elim b as (λ _. Option ℕ) [ true ↦ Some p | false ↦ least_from f (p + 1) k ] ≡ Some r
        → (least_from f (p + 1) k ≡ Some r → (i : ℕ) → p + 1 ≤ i → i < r → f i ≡ false) → Dec (j ≡ p) → f j ≡ false
    go true e x ih d = let z : p ≡ r = cc in absurd (omega arith)
    go false e x ih (yes y) = rw y e
    go false e x ih (no y) = ih x j (omega arith) m

pub passed_over : (f : ℕ → Bool) (n r : ℕ) → least_from f 0 n ≡ Some r → (j : ℕ) → j < r → f j ≡ false
passed_over f n r h j l = passed_from f 0 n r h j (omega arith) l

-- it lies among the numbers that were searched
pub found_below : (f : ℕ → Bool) (p k r : ℕ) → least_from f p k ≡ Some r → r < p + k
unfolding least_from
found_below f p zero r h = let z : ◌≡◌ {A = ℕ} 0 1 = cc in absurd (omega arith)
found_below f p (suc k) r h = go (f p) h (found_below f (p + 1) k r)
  where
    go :
        (b : Bool) → elim b as (λ _. Option ℕ) [ true ↦ Some p | false ↦ least_from f (p + 1) k ] ≡ Some r
        → (least_from f (p + 1) k ≡ Some r → r < p + 1 + k) → r < p + suc k
    go true x ih = let e : p ≡ r = cc in omega arith
    go false x ih = omega (arith, ih x)
