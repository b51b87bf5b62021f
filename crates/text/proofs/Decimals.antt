-- The fewest digits of a number, as the kit spells them, are document 01's decimal. Assumes nothing.
use Prim.Native.Nat.{ℕ, zero, suc, ◌+◌, ◌/◌, ◌%◌, ◌^◌, ◌≤◌, ◌<◌}
use native.Mathlib.Nat.{pow-suc, one-le-pow}
use native.Mathlib.Numerals.{unary_clauses}
use native.Mathlib.Omega.{arith}
use mathlib.Core.Path.{◌≡◌, ap}
use mathlib.Core.List.{[], ◌∷◌}
use borrow.Author.Tests.{lt-ltb, le-ltb}
use Rattle.io.specs.Digits.{hex_digit_ascii, last_digits, IsDigitCount}
use Rattle.rules.specs.Program.{decimal_to, decimal}

-- the glyph of a last digit
last : (x : ℕ) → hex_digit_ascii (x % 10) ≡ 48 + x % 10
last x = rw (lt-ltb (x % 10) 10 (omega arith))

-- ten to any power but 0
ten : (k : ℕ) → 10 ≤ 10 ^ suc k
ten k = omega (arith, pow-suc 10 k, one-le-pow k 10 (omega arith))

-- k + 1 digits that are the fewest: one digit exactly where the definition stops
spelled :
    (fuel k x : ℕ) → x ≤ fuel → x < 10 ^ suc k → (0 < k → 10 ^ k ≤ x)
    → last_digits 10 (suc k) x ≡ decimal_to fuel x
unfolding decimal_to
spelled zero zero x f u l = ap (λ (d : ℕ). d ∷ []) (last x)
spelled zero (suc k) x f u l = absurd (omega (arith, ten k, l (omega arith)))
spelled (suc fuel) zero x f u l = rw (lt-ltb x 10 (omega (arith, u))) (ap (λ (d : ℕ). d ∷ []) (last x))
spelled (suc fuel) (suc k) x f u l =
    let more = l (omega arith) in
    let rest =
    spelled fuel k (x / 10) (omega (arith, ten k)) (omega (arith, pow-suc 10 (suc k))) (λ h. omega (arith, pow-suc 10 k)) in
    rw (le-ltb x 10 (omega (arith, ten k))) (cc (rest, last x))

-- what the kit's `decimal` ensures of a number's digits
pub spells : (k x : ℕ) → IsDigitCount 10 1 x k → last_digits 10 k x ≡ decimal x
spells zero x f = absurd (omega (arith, f.0))
spells (suc k) x f = spelled x k x (omega arith) f.1 (λ h. simp unary_clauses at (f.2 (omega arith)))
