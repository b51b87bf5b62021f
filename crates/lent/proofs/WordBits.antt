-- The bits that a word may not have, asked all at once: a word has one of them exactly where document 01 and 02 (i) say so. Assumes
-- nothing.
use Prim.Native.Nat.{ℕ, zero, suc, ◌+◌, ◌-◌, ◌*◌, ◌/◌, ◌%◌, ◌^◌, ◌<◌}
use native.Mathlib.Omega.{arith}
use mathlib.Core.Path.{◌≡◌, refl, sym, ap, ap₂, ◌∙◌}
use mathlib.Core.Bool.{Bool, true, false, cond, not, ◌&&◌, ◌||◌, or-false}
use lib.Bits.{bit_and, and_mask, and_high, and_block}
use lib.Dec.{eqb, eqb-suc-zero}
use borrow.Author.Tests.{ne_eqb}
use Rattle.rules.specs.Bytes.{bits, is_set}
use Rattle.rules.specs.Table.{is_body}
use Rattle.rules.specs.Words.{contradicts, other_bits}
use Rattle.rules.specs.Answers.{wrong_word_if}
use Rattle.rules.specs.declared.Body.{Body}
use Rattle.rules.specs.declared.Body.TheVariants.{IfThenElse}
use Rattle.rules.proofs.Digits.{lowest_bit}
use Rattle.lent.specs.WordBits.{unused_bits, wrong_bits}

-- a number that is 0 exactly where two others are
either_part :
    (y a b : ℕ) → (a ≡ 0 → b ≡ 0 → y ≡ 0) → (y ≡ 0 → (a ≡ 0) × (b ≡ 0)) → not (eqb y 0) ≡ (not (eqb a 0) || not (eqb b 0))
either_part y zero zero f g = rw (f refl refl) refl
either_part y (suc a) b f g =
    rw (eqb-suc-zero a) (ap not (ne_eqb y 0 (λ e. let z : suc a ≡ 0 = (g e).0 in omega arith)))
either_part y zero (suc b) f g =
    rw (eqb-suc-zero b) (ap not (ne_eqb y 0 (λ e. let z : suc b ≡ 0 = (g e).1 in omega arith)))

-- so of numbers that are put together from bit 30 on, and from bit 22 or 20 on
from_22 : (a b : ℕ) → not (eqb (b * 2 ^ 30 + a * 2 ^ 22) 0) ≡ (not (eqb a 0) || not (eqb b 0))
from_22 a b = either_part (b * 2 ^ 30 + a * 2 ^ 22) a b (λ x y. omega arith) (λ e. (omega arith, omega arith))

from_20 : (a b c : ℕ) → not (eqb (b * 2 ^ 30 + (c + 4 * a) * 2 ^ 20) 0) ≡ (not (eqb a 0) || not (eqb b 0) || not (eqb c 0))
from_20 a b c =
    either_part (b * 2 ^ 30 + (c + 4 * a) * 2 ^ 20) (a + b) c (λ x y. omega arith) (λ e. (omega arith, omega arith))
    ∙ ap (λ (z : Bool). z || not (eqb c 0)) (either_part (a + b) a b (λ x y. omega arith) (λ e. (omega arith, omega arith)))

-- bits below bit 30, read without the higher ones
below_30 : (x : ℕ) → x % 2 ^ 30 / 2 ^ 22 % 4 ≡ x / 2 ^ 22 % 4
below_30 x =
    let moved : x / 2 ^ 22 ≡ 256 * (x / 2 ^ 30) + x % 2 ^ 30 / 2 ^ 22 = omega arith in
    omega (arith, moved)

four_below_30 : (x : ℕ) → x % 2 ^ 30 / 2 ^ 20 % 16 ≡ x / 2 ^ 20 % 16
four_below_30 x =
    let moved : x / 2 ^ 20 ≡ 1024 * (x / 2 ^ 30) + x % 2 ^ 30 / 2 ^ 20 = omega arith in
    omega (arith, moved)

halves : (x : ℕ) → x / 2 ^ 20 % 16 ≡ x / 2 ^ 20 % 4 + 4 * (x / 2 ^ 22 % 4)
halves x =
    let fourth : x / 2 ^ 22 ≡ x / 2 ^ 20 / 4 = omega arith in
    omega (arith, fourth)

module _ (x : ℕ) where
  -- the two highest bits, and j bits from k on, k and j being numbers for which these lie lower
  masked :
      (j k : ℕ) → 2 ^ (j + k) - 2 ^ k < 2 ^ 30
      → bit_and x (3 * 2 ^ 30 + (2 ^ (j + k) - 2 ^ k)) ≡ bits 30 2 x * 2 ^ 30 + x % 2 ^ 30 / 2 ^ k % 2 ^ j * 2 ^ k
  masked j k l =
      let low : ℕ = 2 ^ (j + k) - 2 ^ k in
      let whole : x ≡ x / 2 ^ 30 * 2 ^ 30 + x % 2 ^ 30 = omega arith in
      ap (λ (z : ℕ). bit_and z (3 * 2 ^ 30 + low)) whole
      ∙ and_block 30 (x / 2 ^ 30) 3 (x % 2 ^ 30) low (omega arith) l
      ∙ ap₂ (λ (a b : ℕ). a * 2 ^ 30 + b) (and_mask (x / 2 ^ 30) 2) (and_high (x % 2 ^ 30) j k)

  abbrev outer : Bool
  outer = not (eqb (bits 22 2 x) 0) || not (eqb (bits 30 2 x) 0)

  -- without the two bits of if-then-else
  apart : not (eqb (bit_and x 0xC0C00000) 0) ≡ outer
  apart =
      ap (λ (z : ℕ). not (eqb z 0))
      (masked 2 22 (omega arith) ∙ ap (λ (b : ℕ). bits 30 2 x * 2 ^ 30 + b * 2 ^ 22) (below_30 x))
      ∙ from_22 (bits 22 2 x) (bits 30 2 x)

  -- and these
  branch_bits : not (eqb (x / 2 ^ 20 % 4) 0) ≡ (is_set 20 x || is_set 21 x)
  branch_bits =
      rw (lowest_bit (x / 2 ^ 20 % 4) (x / 2 ^ 20) (x / 2 ^ 21 % 2) (omega arith), lowest_bit (x / 2 ^ 21 % 2) (x / 2 ^ 21) 0 (omega arith))
      (ap (λ (b : Bool). is_set 20 x || b) (or-false (is_set 21 x)))

  together : not (eqb (bit_and x 0xC0F00000) 0) ≡ (outer || (is_set 20 x || is_set 21 x))
  together =
      ap (λ (z : ℕ). not (eqb z 0))
      (masked 4 20 (omega arith) ∙ ap (λ (b : ℕ). bits 30 2 x * 2 ^ 30 + b * 2 ^ 20) (four_below_30 x ∙ halves x))
      ∙ from_20 (bits 22 2 x) (bits 30 2 x) (x / 2 ^ 20 % 4)
      ∙ ap (λ (b : Bool). outer || b) branch_bits

  -- as the rules have it
  unused_is : (body : Body) → not (eqb (bit_and x (unused_bits body)) 0) ≡ other_bits body x
  unused_is body = go (is_body IfThenElse body)
    where
      go :
          (b : Bool)
          → not (eqb (bit_and x (cond b 0xC0C00000 0xC0F00000)) 0) ≡ (outer || not b && (is_set 20 x || is_set 21 x))
      go true = apart ∙ sym (or-false outer)
      go false = together

  pub wrong_is : (body : Body) (allowed : Bool) → wrong_bits (unused_bits body) allowed x ≡ wrong_word_if body allowed x
  wrong_is body allowed = ap (λ (b : Bool). b || not allowed || contradicts x) (unused_is body)
