-- A number that no text says: the one behind the least, in two's complement, since what digits say lies within ten thousand million of 0.
-- Assumes nothing.
use Rattle.std.proofs.Common.{◌≡◌, ℕ, suc, ◌+◌, ◌*◌, ◌-◌, ◌^◌, ◌<◌, Bool, true, false, cond, List, [], ◌∷◌, length, drop, refl, ap, arith, Option, None, Some}
use Rattle.std.specs.Prelude.{◌==◌, nat_lt, slice_index}
use Rattle.std.specs.Str.{bytes_eq}
use native.Mathlib.Nat.{pow-le-pow_right}
use borrow.Author.Tests.{ltb-false}
use Rattle.rules.specs.Bytes.{text}
use Rattle.statements.specs.Words.{is_digit, natural, unsigned, negative, number, bound}
use Rattle.statements.proofs.Scanning.{next_power}

-- the number behind the least
abbrev pub unsaid : ℕ
unsaid = 2 ^ 63 + 1

missing : {x : ℕ} → None ≡ Some x → ⊥
missing e = cc

-- digits make a number below ten to their count
below : (k v : ℕ) (s : List ℕ) {x : ℕ} → v < 10 ^ k → natural v s ≡ Some x → x < 10 ^ (k + length s)
unfolding natural
below k v [] {x} l e =
    let same : v ≡ x = cc in
    omega (arith, ap (λ (n : ℕ). 10 ^ n) (plus_none k))
  where
    plus_none : (n : ℕ) → n + 0 ≡ n
    plus_none n = omega arith
below k v (b ∷ s) {x} l e = by (is_digit b) refl e (λ w h. below (k + 1) w s h)
  where
    by :
        (digit : Bool) → is_digit b ≡ digit → cond digit (natural (10 * v + (b - 48)) s) None ≡ Some x
        → ((w : ℕ) → w < 10 ^ (k + 1) → natural w s ≡ Some x → x < 10 ^ (k + 1 + length s))
        → x < 10 ^ (k + suc (length s))
    by true is e rest =
        let less = rest (10 * v + (b - 48)) (next_power v b k l is) e in
        let place : k + 1 + length s ≡ k + suc (length s) = omega arith in
        omega (arith, less, ap (λ (n : ℕ). 10 ^ n) place)
    by false is e rest = absurd (missing e)

-- and so at most ten digits
unsigned_below : (w : List ℕ) {x : ℕ} → unsigned w ≡ Some x → x < 10000000000
unsigned_below w {x} e = by (length w == 0) (nat_lt 10 (length w)) refl e
  where
    by :
        (none many : Bool) → nat_lt 10 (length w) ≡ many → cond none None (cond many None (natural 0 w)) ≡ Some x → x < 10000000000
    by true many is e = absurd (missing e)
    by false true is e = absurd (missing e)
    by false false is e =
        let few = ltb-false 10 (length w) is in
        omega (arith, below 0 0 w (omega arith) e, pow-le-pow_right {n = 10} (omega arith) {i = 0 + length w} {j = 10} (omega arith))

negative_said : {x : ℕ} (v : Option ℕ) → ((y : ℕ) → v ≡ Some y → y < 10000000000) → negative v ≡ Some x → x ≡ unsaid → ⊥
negative_said None small e u = missing e
negative_said {x} (Some y) small e u = by (y == 0) e
  where
    by : (zero : Bool) → Some (cond zero 0 (2 ^ 64 - y)) ≡ Some x → ⊥
    by true e = let same : 0 ≡ x = cc in omega arith
    by false e = let same : 2 ^ 64 - y ≡ x = cc in omega (arith, small y refl)

pub number_said : (w : List ℕ) {x : ℕ} → number w ≡ Some x → x ≡ unsaid → ⊥
unfolding number
number_said w {x} e u = by (slice_index w 0 == 45) e
  where
    by : (minus : Bool) → cond minus (negative (unsigned (drop 1 w))) (unsigned w) ≡ Some x → ⊥
    by true e = negative_said (unsigned (drop 1 w)) (λ y. unsigned_below (drop 1 w)) e u
    by false e = omega (arith, unsigned_below w e)

pub bound_said : (w : List ℕ) (o : ℕ) {x : ℕ} → (o ≡ unsaid → ⊥) → bound w o ≡ Some x → x ≡ unsaid → ⊥
unfolding bound
bound_said w o {x} other e u = by (bytes_eq w (text "_")) e
  where
    by : (nothing : Bool) → cond nothing (Some o) (number w) ≡ Some x → ⊥
    by true e = let is : o ≡ x = cc in other (omega arith)
    by false e = number_said w e u
