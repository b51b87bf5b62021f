-- Stretches of bytes, and digits, byte by byte as the code goes. Assumes nothing.
use Rattle.std.proofs.Common.{◌≡◌, ℕ, ◌+◌, ◌-◌, ◌*◌, ◌^◌, ◌<◌, ◌≤◌, Bool, true, false, ◌&&◌, leb, List, [], ◌∷◌, length, get_or, drop, refl, ap, ◌∙◌, pow-suc, add-one, arith, drop_of_length-le, drop-cons, leb-true, Option, None, Some}
use native.Mathlib.Nat.{pow-le-pow_right}
use mathlib.Core.Bool.{false≢true}
use Rattle.std.specs.List.{prefix_len, HoldsAt, AllWithin}
use Rattle.std.specs.Option.{MatchOption, unwrap_or}
use Rattle.std.proofs.lemmas.Iterator.{index_from_first}
use Rattle.statements.specs.Words.{is_digit, natural}

-- a stretch ends at the first byte that does not belong to it, or with the text
pub stretch :
    (p : ℕ → Bool) (s : List ℕ) (r : Option ℕ)
    → MatchOption r (AllWithin (λ b. p b ≡ true) s 0 (length s))
    (λ i. (i < length s) × HoldsAt (λ b. p b ≡ false) s i × AllWithin (λ b. p b ≡ true) s 0 i)
    → prefix_len p s ≡ unwrap_or r (length s)
stretch p =
    index_from_first (prefix_len p) (λ b. p b ≡ false) (λ b. p b ≡ true) refl (λ x xs h. simp h)
    (λ x xs h. simp h (omega arith))

module _ (s : List ℕ) (v i : ℕ) where
  -- a digit, another byte, and the end
  pub digit_here :
      i < length s → is_digit (get_or s i 0) ≡ true → natural v (drop i s) ≡ natural (10 * v + (get_or s i 0 - 48)) (drop (i + 1) s)
  unfolding natural
  digit_here l h = rw add-one (ap (natural v) (drop-cons s i 0 l) ∙ simp h)

  pub digit_stop : i < length s → is_digit (get_or s i 0) ≡ false → natural v (drop i s) ≡ None
  unfolding natural
  digit_stop l h = ap (natural v) (drop-cons s i 0 l) ∙ simp h

  pub digit_end : length s ≤ i → natural v (drop i s) ≡ Some v
  unfolding natural
  digit_end l = ap (natural v) (drop_of_length-le s l)

-- a digit's byte
and_left : (a b : Bool) → (a && b) ≡ true → a ≡ true
and_left true b e = refl
and_left false b e = absurd (false≢true e)

and_right : (a b : Bool) → (a && b) ≡ true → b ≡ true
and_right true b e = e
and_right false b e = absurd (false≢true e)

pub record Digit (b : ℕ) : Type 0 where
  pub low : 48 ≤ b
  pub high : b ≤ 57

pub is_digit_lem : (b : ℕ) → is_digit b ≡ true → Digit b
is_digit_lem b e =
    record { low = leb-true 48 b (and_left (leb 48 b) (leb b 57) e); high = leb-true b 57 (and_right (leb 48 b) (leb b 57) e) }

-- one digit more stays below the next power of ten
pub next_power : (v b i : ℕ) → v < 10 ^ i → is_digit b ≡ true → 10 * v + (b - 48) < 10 ^ (i + 1)
next_power v b i l e = omega (arith, pow-suc 10 i, ap (λ (k : ℕ). 10 ^ k) (add-one i), (is_digit_lem b e).high)

-- and ten digits fit
pub fits_ten : (v d i : ℕ) → v < 10 ^ i → d ≤ 9 → i < 10 → 10 * v + d < 10000000000
fits_ten v d i lv ld li = omega (arith, pow-le-pow_right {n = 10} (omega arith) {i = i} {j = 9} (omega arith))

-- where a byte other than 0 stands first, there is one
pub some_byte : (s : List ℕ) → get_or s 0 0 ≡ 45 → 1 ≤ length s
some_byte [] e = absurd (omega arith)
some_byte (b ∷ s) e = omega arith
