-- Laws of binary words, the lowest digit first: what each operation on a word does to the list of its digits. Assumes nothing.
use mathlib.Core.Path.{◌≡◌, refl, sym, ap, ap₂, ◌∙◌}
use mathlib.Core.List.{List, [], ◌∷◌, ◌++◌, map}
use mathlib.Core.Bool.{Bool, true, false, ◌&&◌, ◌||◌, not}
use Prim.Native.Nat.{ℕ, zero, suc, ◌+◌, ◌-◌, ◌*◌, ◌/◌, ◌%◌, ◌^◌, ◌≤◌, ◌<◌, min}
use native.Mathlib.Nat.{pow-suc, lt_of_lt_of_le}
use native.Mathlib.Numerals.{one-add}
use native.Mathlib.Omega.{arith}
use lib.ListN.{length, get_or}
use lib.Pow.{shr-shr, shr_le, pow_mono, pow_pos}
use lib.Bits.{bit_and, bit_or, and_step, or_step}
use lib.Count.{ones, count_leading_zeros, count_trailing_zeros, under, ones_step, leading_unique}
use Rattle.rules.specs.Lists.{count}
use Rattle.rules.specs.Bytes.{is_set}
use Rattle.rules.proofs.Digits.{bit, is_bit, min_bit, max_bit}
use Rattle.children.specs.Sets.{bits}

pub bit_le : (b : Bool) → bit b ≤ 1
bit_le true = omega arith
bit_le false = omega arith

pub bits_half : (b : Bool) (bs : List Bool) → bits (b ∷ bs) / 2 ≡ bits bs
unfolding bits
bits_half true bs = omega arith
bits_half false bs = omega arith

pub bits_odd : (b : Bool) (bs : List Bool) → bits (b ∷ bs) % 2 ≡ bit b
unfolding bits
bits_odd true bs = omega arith
bits_odd false bs = omega arith

bits_lt : (bs : List Bool) → bits bs < 2 ^ length bs
unfolding bits
bits_lt [] = omega arith
bits_lt (b ∷ bs) = omega (arith, bits_lt bs, pow-suc 2 (length bs), bit_le b)

pub bits_fit : (k : ℕ) (bs : List Bool) → length bs ≤ k → bits bs < 2 ^ k
bits_fit k bs h = lt_of_lt_of_le (bits_lt bs) (pow_mono h)

-- append: one digit more, above the others
pub bits_snoc : (bs : List Bool) (b : Bool) → bits (bs ++ b ∷ []) ≡ bits bs + bit b * 2 ^ length bs
unfolding bits
bits_snoc [] true = refl
bits_snoc [] false = refl
bits_snoc (x ∷ bs) true = omega (arith, bits_snoc bs true, pow-suc 2 (length bs))
bits_snoc (x ∷ bs) false = omega (arith, bits_snoc bs false)

-- the digit at a rank
digit_at : (bs : List Bool) (r : ℕ) → bits bs / 2 ^ r % 2 ≡ bit (get_or bs r false)
unfolding bits
digit_at [] r = omega (arith, shr_le 0 r)
digit_at (b ∷ bs) zero = omega (arith, bit_le b)
digit_at (b ∷ bs) (suc r) =
    ap (λ (x : ℕ). bits (b ∷ bs) / 2 ^ x % 2) (sym (one-add r))
    ∙ ap (λ (x : ℕ). x % 2) (sym (shr-shr (bits (b ∷ bs)) 1 r))
    ∙ ap (λ (x : ℕ). x / 2 ^ r % 2) (bits_half b bs)
    ∙ digit_at bs r

pub digit_bits : (bs : List Bool) (r : ℕ) → is_set r (bits bs) ≡ get_or bs r false
digit_bits bs r = rw digit_at (is_bit (get_or bs r false))

-- and, or
cons : (b : Bool) (x y : ℕ) → x ≡ y → x * 2 + bit b ≡ bit b + 2 * y
cons b x y e = omega arith

module _ {A : Type 0} (f g : A → Bool) where
  pub and_bits : (l : List A) → bit_and (bits (map f l)) (bits (map g l)) ≡ bits (map (λ c. f c && g c) l)
  unfolding bits
  and_bits [] = refl
  and_bits (c ∷ l) =
      and_step (bits (map f (c ∷ l))) (bits (map g (c ∷ l)))
      ∙ simp (bits_half, bits_odd, min_bit) (cons (f c && g c) _ _ (and_bits l))

  pub or_bits : (l : List A) → bit_or (bits (map f l)) (bits (map g l)) ≡ bits (map (λ c. f c || g c) l)
  unfolding bits
  or_bits [] = refl
  or_bits (c ∷ l) =
      or_step (bits (map f (c ∷ l))) (bits (map g (c ∷ l)))
      ∙ simp (bits_half, bits_odd, max_bit) (cons (f c || g c) _ _ (or_bits l))

-- count of ones
pub ones_bits : (f : ℕ → Bool) (l : List ℕ) → ones (bits (map f l)) ≡ count f l
unfolding bits ones
ones_bits f [] = refl
ones_bits f (c ∷ l) =
    ones_step (bits (map f (c ∷ l)))
    ∙ ap₂ (λ (x y : ℕ). x + y) (bits_odd (f c) (map f l)) (ap ones (bits_half (f c) (map f l)) ∙ ones_bits f l)

-- the lowest by trailing zeros: the index of the first true, or the length where there is none
abbrev first_by : Bool → ℕ → ℕ
first_by true r = zero
first_by false r = suc r

unfoldable pub first_true : List Bool → ℕ
first_true [] = zero
first_true (b ∷ bs) = first_by b (first_true bs)

under_min : (b : Bool) (t l f : ℕ) → min t l ≡ f → min (under (bit b) t) (suc l) ≡ first_by b f
under_min true t l f e = omega arith
under_min false t l f e = omega arith

pub trailing_bits : (k : ℕ) (bs : List Bool) → length bs ≤ k → min (count_trailing_zeros k (bits bs)) (length bs) ≡ first_true bs
unfolding first_true count_trailing_zeros
trailing_bits k [] h = omega arith
trailing_bits zero (b ∷ bs) h = absurd (omega arith)
trailing_bits (suc k) (b ∷ bs) h = simp (bits_half, bits_odd) (under_min b _ _ _ (trailing_bits k bs (omega arith)))

-- complement: the first false by trailing zeros
under_not : (b : Bool) (t f : ℕ) → t ≡ f → under (1 - bit b) t ≡ first_by (not b) f
under_not true t f e = ap suc e
under_not false t f e = refl

pub trailing_not : (k : ℕ) (bs : List Bool) → length bs ≤ k → count_trailing_zeros k (2 ^ k - 1 - bits bs) ≡ first_true (map not bs)
unfolding first_true count_trailing_zeros bits
trailing_not zero [] h = refl
trailing_not (suc k) [] h =
    let odd : (2 ^ suc k - 1 - 0) % 2 ≡ 1 = omega (arith, pow-suc 2 k, pow_pos k) in
    rw odd
trailing_not zero (b ∷ bs) h = absurd (omega arith)
trailing_not (suc k) (b ∷ bs) h =
    let lt : bits bs < 2 ^ k = bits_fit k bs (omega arith) in
    let odd : (2 ^ suc k - 1 - bits (b ∷ bs)) % 2 ≡ 1 - bit b = omega (arith, pow-suc 2 k, bit_le b) in
    let half : (2 ^ suc k - 1 - bits (b ∷ bs)) / 2 ≡ 2 ^ k - 1 - bits bs = omega (arith, pow-suc 2 k, bit_le b) in
    rw (odd, half) (under_not b _ _ (trailing_not k bs (omega arith)))

-- the highest by leading zeros: one more than the index of the last true, or 0 where there is none
abbrev top_by : Bool → ℕ → ℕ
top_by b zero = bit b
top_by b (suc t) = suc (suc t)

unfoldable pub top : List Bool → ℕ
top [] = zero
top (b ∷ bs) = top_by b (top bs)

top_by_lt : (b : Bool) (n t : ℕ) → n < 2 ^ t → bit b + 2 * n < 2 ^ top_by b t
top_by_lt true n zero h = omega arith
top_by_lt false n zero h = omega arith
top_by_lt b n (suc t) h = omega (arith, pow-suc 2 (suc t), bit_le b)

top_by_le : (b : Bool) (n t : ℕ) → 2 ^ t ≤ 2 * n + 1 → 2 ^ top_by b t ≤ 2 * (bit b + 2 * n) + 1
top_by_le true n zero h = omega arith
top_by_le false n zero h = omega arith
top_by_le b n (suc t) h = omega (arith, pow-suc 2 t, pow-suc 2 (suc t))

top_by_length : (b : Bool) (t l : ℕ) → t ≤ l → top_by b t ≤ suc l
top_by_length b zero l h = omega (arith, bit_le b)
top_by_length b (suc t) l h = omega arith

top_lt : (bs : List Bool) → bits bs < 2 ^ top bs
unfolding bits top
top_lt [] = omega arith
top_lt (b ∷ bs) = top_by_lt b (bits bs) (top bs) (top_lt bs)

top_le : (bs : List Bool) → 2 ^ top bs ≤ 2 * bits bs + 1
unfolding bits top
top_le [] = omega arith
top_le (b ∷ bs) = top_by_le b (bits bs) (top bs) (top_le bs)

pub top_length : (bs : List Bool) → top bs ≤ length bs
unfolding top
top_length [] = omega arith
top_length (b ∷ bs) = top_by_length b (top bs) (length bs) (top_length bs)

pub leading_bits : (k : ℕ) (bs : List Bool) → length bs ≤ k → count_leading_zeros k (bits bs) + top bs ≡ k
leading_bits k bs h =
    let l : top bs ≤ k = omega (arith, top_length bs) in
    omega (arith, leading_unique k (bits bs) (k - top bs) (top bs) (omega arith) (top_lt bs) (top_le bs))
