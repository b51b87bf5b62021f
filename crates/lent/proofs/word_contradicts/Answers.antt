-- `word_contradicts` meets its contract: a bit of a word that it tests is set where it is set in the word handed in and another, so many
-- places higher, is not. Of the one word the two low bits are asked for, the filter's and the setup's, of the other bit 20. Assumes nothing.
use Rattle.std.proofs.Common.{
  ◌≡◌,
  ap,
  ap₂,
  ◌∙◌,
  Bool,
  not,
  ◌&&◌,
  ◌||◌,
  ℕ,
  ◌+◌,
  ◌-◌,
  ◌/◌,
  ◌%◌,
  ◌^◌,
  ◌<◌,
  arith,
  bit_and,
  eqb,
}
use mathlib.Core.Bool.{or-false}
use Rattle.rules.specs.Bytes.{is_set}
use Rattle.rules.specs.Words.{satisfied_only, if_satisfied, if_satisfiable}
use Rattle.rules.specs.declared.Condition.TheVariants.{Filter, Setup}
use Rattle.rules.proofs.Digits.{and_set, shift_set, not_set, lowest_bit}
use Rattle.lent.proofs.word_contradicts.Goals as goal

-- the bits of filter and setup in a word
low_bits : (x : ℕ) → not (eqb (x % 4) 0) ≡ (is_set 0 x || is_set 1 x)
low_bits x =
    rw (lowest_bit (x % 4) (x / 1) (x / 2 % 2) (omega arith), lowest_bit (x / 2 % 2) (x / 2) 0 (omega arith))
    (ap (λ (b : Bool). is_set 0 x || b) (or-false (is_set 1 x)))

module _ (x : ℕ) (fits : x < 2 ^ 32) where
  -- the word whose bit k tells that bit k of x is set, and the one j places higher is not
  abbrev alone : ℕ → ℕ
  alone j = bit_and x (2 ^ 32 - 1 - x / 2 ^ j)

  alone_bit : (j k : ℕ) → x / 2 ^ j < 2 ^ 32 → k < 32 → is_set k (alone j) ≡ (is_set k x && not (is_set (j + k) x))
  alone_bit j k l h = simp (and_set, not_set 32 k (x / 2 ^ j) h l, shift_set)

  low_pair : not (eqb (alone 6 % 4) 0) ≡ (satisfied_only Filter x || satisfied_only Setup x)
  low_pair =
      low_bits (alone 6) ∙ simp (alone_bit 6 0 (omega (arith, fits)) (omega arith), alone_bit 6 1 (omega (arith, fits)) (omega arith))

  branch : eqb (alone 1 / 2 ^ 20 % 2) 1 ≡ (if_satisfied x && not (if_satisfiable x))
  branch = alone_bit 1 20 (omega (arith, fits)) (omega arith)

pub returns : goal.returns
returns c =
    let x = c.args.x in
    let fits : x < 2 ^ 32 = omega (arith, c.ranges.x.fits) in
    ap₂ (λ (a b : Bool). a || b) (low_pair x fits) (branch x fits)
