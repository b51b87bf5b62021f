-- Laws of the bits of a word: what each operation on words does to a bit, and when a word is not 0. Assumes nothing.
use mathlib.Core.Path.{◌≡◌, refl, sym, ap, ◌∙◌}
use mathlib.Core.Bool.{Bool, true, false, cond, not, ◌&&◌, ◌||◌}
use Prim.Native.Nat.{ℕ, zero, suc, ◌+◌, ◌-◌, ◌*◌, ◌/◌, ◌%◌, ◌^◌, ◌<◌, min, max}
use native.Mathlib.Nat.{pow-suc}
use native.Mathlib.Numerals.{one-add}
use native.Mathlib.Omega.{arith}
use borrow.Author.Tests.{ne_eqb}
use lib.Bits.{bit_and, bit_or, and_step, or_step, and_shr, or_shr}
use lib.Dec.{eqb}
use lib.Pow.{shr-shr}
use Rattle.rules.specs.Bytes.{is_set}

-- a digit
abbrev pub bit : Bool → ℕ
bit b = cond b 1 0

pub is_bit : (b : Bool) → eqb (bit b) 1 ≡ b
is_bit true = refl
is_bit false = refl

told : (d : ℕ) → d < 2 → d ≡ bit (eqb d 1)
told zero h = refl
told (suc zero) h = refl
told (suc (suc d)) h = absurd (omega arith)

-- the lowest digit is told by whether it is 1
pub digit : (x : ℕ) → x % 2 ≡ bit (eqb (x % 2) 1)
digit x = told (x % 2) (omega arith)

pub min_bit : (a b : Bool) → min (bit a) (bit b) ≡ bit (a && b)
min_bit true true = refl
min_bit true false = refl
min_bit false true = refl
min_bit false false = refl

pub max_bit : (a b : Bool) → max (bit a) (bit b) ≡ bit (a || b)
max_bit true true = refl
max_bit true false = refl
max_bit false true = refl
max_bit false false = refl

not_bit : (a : Bool) → 1 - bit a ≡ bit (not a)
not_bit true = refl
not_bit false = refl

-- a bit is set as its digit says
set_by : (k x : ℕ) (b : Bool) → x / 2 ^ k % 2 ≡ bit b → is_set k x ≡ b
set_by k x b e = ap (λ (d : ℕ). eqb d 1) e ∙ is_bit b

pub and_set : (k x y : ℕ) → is_set k (bit_and x y) ≡ (is_set k x && is_set k y)
and_set k x y =
    let a = x / 2 ^ k in
    let b = y / 2 ^ k in
    let lowest : bit_and a b % 2 ≡ bit (is_set k x && is_set k y) =
    omega (arith, and_step a b, digit a, digit b, min_bit (is_set k x) (is_set k y)) in
    set_by k (bit_and x y) (is_set k x && is_set k y) (rw (and_shr x y k) lowest)

pub or_set : (k x y : ℕ) → is_set k (bit_or x y) ≡ (is_set k x || is_set k y)
or_set k x y =
    let a = x / 2 ^ k in
    let b = y / 2 ^ k in
    let lowest : bit_or a b % 2 ≡ bit (is_set k x || is_set k y) =
    omega (arith, or_step a b, digit a, digit b, max_bit (is_set k x) (is_set k y)) in
    set_by k (bit_or x y) (is_set k x || is_set k y) (rw (or_shr x y k) lowest)

pub shift_set : (k j x : ℕ) → is_set k (x / 2 ^ j) ≡ is_set (j + k) x
shift_set k j x = rw (shr-shr x j k)

-- the complement of a word of w bits flips each of them
flipped : (w k x : ℕ) → k < w → x < 2 ^ w → (2 ^ w - 1 - x) / 2 ^ k % 2 ≡ 1 - x / 2 ^ k % 2
flipped zero k x h f = absurd (omega arith)
flipped (suc w) zero x h f = omega (arith, pow-suc 2 w)
flipped (suc w) (suc k) x h f =
    let halved : (2 ^ suc w - 1 - x) / 2 ^ 1 ≡ 2 ^ w - 1 - x / 2 ^ 1 = omega (arith, pow-suc 2 w) in
    let below : x / 2 ^ 1 < 2 ^ w = omega (arith, pow-suc 2 w) in
    rw (← one-add k, ← shr-shr (2 ^ suc w - 1 - x) 1 k, ← shr-shr x 1 k, halved)
    (flipped w k (x / 2 ^ 1) (omega arith) below)

pub not_set : (w k x : ℕ) → k < w → x < 2 ^ w → is_set k (2 ^ w - 1 - x) ≡ not (is_set k x)
not_set w k x h f =
    set_by k (2 ^ w - 1 - x) (not (is_set k x))
    (flipped w k x h f ∙ ap (λ (d : ℕ). 1 - d) (digit (x / 2 ^ k)) ∙ not_bit (is_set k x))

-- a number is not 0 where its lowest digit is 1 or the rest is not 0
not_zero : (b : Bool) (rest : ℕ) → not (eqb (bit b + 2 * rest) 0) ≡ (b || not (eqb rest 0))
not_zero true rest = ap not (ne_eqb (1 + 2 * rest) 0 (λ e. omega arith))
not_zero false zero = refl
not_zero false (suc rest) = ap not (ne_eqb (0 + 2 * suc rest) 0 (λ e. omega arith) ∙ sym (ne_eqb (suc rest) 0 (λ e. omega arith)))

-- the lowest digit of y is that of x
pub lowest_bit : (y x rest : ℕ) → y ≡ x % 2 + 2 * rest → not (eqb y 0) ≡ (eqb (x % 2) 1 || not (eqb rest 0))
lowest_bit y x rest e =
    ap (λ (z : ℕ). not (eqb z 0)) (e ∙ ap (λ (d : ℕ). d + 2 * rest) (digit x)) ∙ not_zero (eqb (x % 2) 1) rest
