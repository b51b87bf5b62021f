-- What is known of a pattern, put into a word: which bits change and how; and a word that passes check 12 still passes it, where what is
-- satisfied is satisfiable. Assumes nothing.
use Prim.Native.Nat.{ℕ, ◌-◌, ◌/◌, ◌%◌, ◌^◌, ◌<◌}
use native.Mathlib.Nat.{zero-div, zero-mod, mod-mod}
use native.Mathlib.Omega.{arith}
use mathlib.Core.Path.{◌≡◌, refl, sym, ap, ◌∙◌}
use mathlib.Core.Bool.{Bool, true, false, cond, not, ◌&&◌, ◌||◌, false≢true}
use lib.Bits.{bit_or, and_shr, or_shr, and_mod, or_mod, and_mask, or_zero_r, or_lt}
use lib.Pow.{shr-shr}
use Rattle.rules.specs.Bytes.{bits, is_set}
use Rattle.rules.specs.Table.{is_body, bit_of}
use Rattle.rules.specs.Words.{pick_of, if_satisfied, if_satisfiable, other_bits, contradicts, with_bits, satisfiable_bits, with_pattern}
use Rattle.rules.specs.Answers.{wrong_word_if}
use Rattle.rules.specs.declared.Body.{Body}
use Rattle.rules.specs.declared.Body.TheVariants.{IfThenElse}
use Rattle.rules.specs.declared.Condition.{Condition}
use Rattle.rules.specs.declared.Condition.TheVariants.{Filter, Setup, Suspend, Reactivate, Abort, Complete}
use Rattle.rules.specs.declared.Pattern.{Pattern}
use Rattle.rules.specs.declared.Pattern.TheVariants.{Of, If}
use Rattle.rules.proofs.Digits.{and_set, or_set, not_set}

nothing_set : (k : ℕ) → is_set k 0 ≡ false
nothing_set k = rw (zero-div (2 ^ k))

-- bit k is as satisfied says where it is one of the first bits, as satisfiable says where it is one of the second, and else as it was
module _ (k first second : ℕ) (small : k < 32) (fits : first < 2 ^ 32) (fits' : second < 2 ^ 32) (s t : Bool) (x : ℕ) where
  bit_if : (b : Bool) (y : ℕ) → is_set k (cond b y 0) ≡ (b && is_set k y)
  bit_if true y = refl
  bit_if false y = nothing_set k

  with_bit :
      is_set k (with_bits first second s t x)
      ≡ (is_set k x && not (is_set k first || is_set k second) || (s && is_set k first) || (t && is_set k second))
  with_bit =
      simp (or_set, and_set, not_set 32 k (bit_or first second) small (or_lt 32 first second fits fits'), bit_if s first, bit_if t second)

abbrev first_bits : Pattern → ℕ
first_bits (Of c) = 2 ^ bit_of c
first_bits If = 2 ^ 20

abbrev second_bits : Pattern → ℕ
second_bits (Of c) = satisfiable_bits c
second_bits If = 2 ^ 21

-- each bit of the word
abbrev pub bit_with : Pattern → Bool → Bool → ℕ → Bool → Bool
bit_with p s t k before =
    before && not (is_set k (first_bits p) || is_set k (second_bits p))
    || (s && is_set k (first_bits p))
    || (t && is_set k (second_bits p))

pub each_bit : (p : Pattern) (s t : Bool) (x k : ℕ) → k < 32 → is_set k (with_pattern p s t x) ≡ bit_with p s t k (is_set k x)
each_bit (Of Filter) s t x k l = with_bit k (2 ^ 0) (2 ^ 6) l (omega arith) (omega arith) s t x
each_bit (Of Setup) s t x k l = with_bit k (2 ^ 1) (2 ^ 7) l (omega arith) (omega arith) s t x
each_bit (Of Suspend) s t x k l = with_bit k (2 ^ 2) 0 l (omega arith) (omega arith) s t x
each_bit (Of Reactivate) s t x k l = with_bit k (2 ^ 3) 0 l (omega arith) (omega arith) s t x
each_bit (Of Abort) s t x k l = with_bit k (2 ^ 4) 0 l (omega arith) (omega arith) s t x
each_bit (Of Complete) s t x k l = with_bit k (2 ^ 5) 0 l (omega arith) (omega arith) s t x
each_bit If s t x k l = with_bit k (2 ^ 20) (2 ^ 21) l (omega arith) (omega arith) s t x

and-true : (a : Bool) → (a && true) ≡ a
and-true true = refl
and-true false = refl

and-false : (a : Bool) → (a && false) ≡ false
and-false true = refl
and-false false = refl

or-false : (a : Bool) → (a || false) ≡ a
or-false true = refl
or-false false = refl

-- what was wrong with none of three parts, and of two
neither : (a b : Bool) → (a || b) ≡ false → (a ≡ false) × (b ≡ false)
neither true b e = absurd (false≢true (sym e))
neither false b e = (refl, e)

-- what is satisfied is satisfiable
no_sense : (s t : Bool) → (s ≡ true → t ≡ true) → (s && not t) ≡ false
no_sense true t h = rw (h refl)
no_sense false t h = refl

module _ (s t : Bool) (sense : s ≡ true → t ≡ true) (x : ℕ) (passes : contradicts x ≡ false) where
  abbrev only : ℕ → ℕ → Bool
  only k j = is_set k x && not (is_set j x)

  filter : only 0 6 ≡ false
  filter = (neither (only 0 6) (only 1 7) (neither (only 0 6 || only 1 7) (only 20 21) passes).0).0

  setup : only 1 7 ≡ false
  setup = (neither (only 0 6) (only 1 7) (neither (only 0 6 || only 1 7) (only 20 21) passes).0).1

  if_then : only 20 21 ≡ false
  if_then = (neither (only 0 6 || only 1 7) (only 20 21) passes).1

  none : (a b c : Bool) → a ≡ false → b ≡ false → c ≡ false → (a || b || c) ≡ false
  none a b c p q r = rw (p, q, r)

  abbrev only_with : Pattern → ℕ → ℕ → Bool
  only_with p k j = bit_with p s t k (is_set k x) && not (bit_with p s t j (is_set j x))

  by_bits : (p : Pattern) → contradicts (with_pattern p s t x) ≡ (only_with p 0 6 || only_with p 1 7 || only_with p 20 21)
  by_bits p =
      simp (
        each_bit p s t x 0 (omega arith),
        each_bit p s t x 1 (omega arith),
        each_bit p s t x 6 (omega arith),
        each_bit p s t x 7 (omega arith),
        each_bit p s t x 20 (omega arith),
        each_bit p s t x 21 (omega arith),
      )

  in_sense : (p : Pattern) → (only_with p 0 6 || only_with p 1 7 || only_with p 20 21) ≡ false
  in_sense (Of Filter) =
      simp (and-true, and-false, or-false) (none (s && not t) (only 1 7) (only 20 21) (no_sense s t sense) setup if_then)
  in_sense (Of Setup) =
      simp (and-true, and-false, or-false) (none (only 0 6) (s && not t) (only 20 21) filter (no_sense s t sense) if_then)
  in_sense (Of Suspend) = simp (and-true, and-false, or-false) passes
  in_sense (Of Reactivate) = simp (and-true, and-false, or-false) passes
  in_sense (Of Abort) = simp (and-true, and-false, or-false) passes
  in_sense (Of Complete) = simp (and-true, and-false, or-false) passes
  in_sense If = simp (and-true, and-false, or-false) (none (only 0 6) (only 1 7) (s && not t) filter setup (no_sense s t sense))

  pub still_sensible : (p : Pattern) → contradicts (with_pattern p s t x) ≡ false
  still_sensible p = by_bits p ∙ in_sense p

-- bits that are neither first nor second ones are kept, several at once
kept :
    (k w first second : ℕ) → (2 ^ 32 - 1 - bit_or first second) / 2 ^ k % 2 ^ w ≡ 2 ^ w - 1 → first / 2 ^ k % 2 ^ w ≡ 0
    → second / 2 ^ k % 2 ^ w ≡ 0 → (s t : Bool) (x : ℕ)
    → bits k w (with_bits first second s t x) ≡ bits k w x
kept k w first second mask p q s t x =
    simp (or_shr, and_shr, or_mod, and_mod, mask, if_none s first p, if_none t second q, or_zero_r)
    (and_mask (x / 2 ^ k % 2 ^ w) w ∙ mod-mod (x / 2 ^ k) (2 ^ w))
  where
    if_none : (b : Bool) (y : ℕ) → y / 2 ^ k % 2 ^ w ≡ 0 → cond b y 0 / 2 ^ k % 2 ^ w ≡ 0
    if_none true y e = e
    if_none false y e = rw (zero-div (2 ^ k)) (zero-mod (2 ^ w))

-- of a condition's pattern bits 20 to 31: if-then-else, unused ones and the pick
high_of : (c : Condition) (s t : Bool) (x : ℕ) → bits 20 12 (with_pattern (Of c) s t x) ≡ bits 20 12 x
high_of Filter s t x = kept 20 12 (2 ^ 0) (2 ^ 6) refl refl refl s t x
high_of Setup s t x = kept 20 12 (2 ^ 1) (2 ^ 7) refl refl refl s t x
high_of Suspend s t x = kept 20 12 (2 ^ 2) 0 refl refl refl s t x
high_of Reactivate s t x = kept 20 12 (2 ^ 3) 0 refl refl refl s t x
high_of Abort s t x = kept 20 12 (2 ^ 4) 0 refl refl refl s t x
high_of Complete s t x = kept 20 12 (2 ^ 5) 0 refl refl refl s t x

-- of if-then-else's bits 22 to 31
high_kept : (p : Pattern) (s t : Bool) (x : ℕ) → bits 22 10 (with_pattern p s t x) ≡ bits 22 10 x
high_kept (Of c) s t x = omega (arith, high_of c s t x)
high_kept If s t x = kept 22 10 (2 ^ 20) (2 ^ 21) refl refl refl s t x

pub pick_kept : (p : Pattern) (s t : Bool) (x : ℕ) → pick_of (with_pattern p s t x) ≡ pick_of x
pick_kept p s t x = omega (arith, high_kept p s t x)

-- a pattern that a plan with this body can have
abbrev pub fits : Pattern → Body → Type 0
fits (Of c) body = Unit
fits If body = is_body IfThenElse body ≡ true

lowest_two : (q : ℕ) → q % 2 ^ 10 % 2 ^ 2 ≡ q % 2 ^ 2
lowest_two q = omega arith

highest_two : (y : ℕ) → bits 22 10 y / 2 ^ 8 ≡ bits 30 2 y
highest_two y = rw (← shr-shr y 22 8) (of_ten (y / 2 ^ 22))
  where
    of_ten : (q : ℕ) → q % 2 ^ 10 / 2 ^ 8 ≡ q / 2 ^ 8 % 2 ^ 2
    of_ten q = omega arith

-- unused bits are kept
module _ (s t : Bool) (x : ℕ) (body : Body) where
  if_kept :
      (p : Pattern) → fits p body
      → (not (is_body IfThenElse body) && (if_satisfied (with_pattern p s t x) || if_satisfiable (with_pattern p s t x)))
      ≡ (not (is_body IfThenElse body) && (if_satisfied x || if_satisfiable x))
  if_kept (Of c) f =
      let y = with_pattern (Of c) s t x in
      let first : y / 2 ^ 20 % 2 ≡ x / 2 ^ 20 % 2 = omega (arith, high_of c s t x) in
      let second : y / 2 ^ 21 % 2 ≡ x / 2 ^ 21 % 2 = omega (arith, high_of c s t x) in
      rw (first, second)
  if_kept If f = rw f

  unused_kept : (p : Pattern) → fits p body → other_bits body (with_pattern p s t x) ≡ other_bits body x
  unused_kept p f =
      let y = with_pattern p s t x in
      let low : bits 22 2 y ≡ bits 22 2 x =
      sym (lowest_two (y / 2 ^ 22)) ∙ ap (λ (q : ℕ). q % 2 ^ 2) (high_kept p s t x) ∙ lowest_two (x / 2 ^ 22) in
      let high : bits 30 2 y ≡ bits 30 2 x = sym (highest_two y) ∙ ap (λ (q : ℕ). q / 2 ^ 8) (high_kept p s t x) ∙ highest_two x in
      rw (low, high, if_kept p f)

-- check 12, whole: where what is satisfied is satisfiable, a word that passes it still does
pub still_passes :
    (s t : Bool) → (s ≡ true → t ≡ true) → (x : ℕ) (body : Body) (allowed : Bool) → wrong_word_if body allowed x ≡ false → (p : Pattern)
    → fits p body
    → wrong_word_if body allowed (with_pattern p s t x) ≡ false
still_passes s t sense x body allowed passes p f =
    let parts = neither (other_bits body x || not allowed) (contradicts x) passes in
    rw (unused_kept s t x body p f, parts.0, still_sensible s t sense x parts.1 p)
