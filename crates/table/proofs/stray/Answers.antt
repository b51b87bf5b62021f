-- `stray` meets its contract: a bit of the byte that it tests is set where that condition is stray, and the six low bits are the
-- conditions in their order. Assumes nothing.
use Rattle.std.proofs.Common.{◌≡◌, ℕ, ◌-◌, ◌/◌, ◌%◌, ◌^◌, ◌<◌, refl, ◌∙◌, arith}
use mathlib.Core.Bool.{not}
use mathlib.Core.List.{map}
use lib.Bits.{bit_and, bit_or}
use lib.Dec.{eqb}
use Rattle.rules.specs.Bytes.{is_set}
use Rattle.rules.specs.Lists.{some}
use Rattle.rules.specs.Table.{bit_of, conditions}
use Rattle.rules.specs.Answers.{stray_at}
use Rattle.rules.specs.declared.PlanEntry.{PlanEntry}
use Rattle.rules.proofs.Digits.{and_set, or_set, not_set, lowest_bit}
use Rattle.table.proofs.stray.Goals as goal

-- the conditions' bits of a byte
low_bits : (x : ℕ) → not (eqb (x % 64) 0) ≡ some (λ k. is_set k x) (map bit_of conditions)
low_bits x =
    rw (
      lowest_bit (x % 64) (x / 1) (x / 2 % 32) (omega arith),
      lowest_bit (x / 2 % 32) (x / 2) (x / 4 % 16) (omega arith),
      lowest_bit (x / 4 % 16) (x / 4) (x / 8 % 8) (omega arith),
      lowest_bit (x / 8 % 8) (x / 8) (x / 16 % 4) (omega arith),
      lowest_bit (x / 16 % 4) (x / 16) (x / 32 % 2) (omega arith),
      lowest_bit (x / 32 % 2) (x / 32) 0 (omega arith),
    )
    refl

module _ (e : PlanEntry) (fits : e.present < 2 ^ 8) where
  -- the byte that is tested
  abbrev tested : ℕ
  tested = bit_and (bit_or e.manual e.overridable) (2 ^ 8 - 1 - e.present)

  stray-bit : (k : ℕ) → k < 8 → is_set k tested ≡ stray_at e k
  stray-bit k h = simp (and_set, or_set, not_set 8 k e.present h fits)

  stray-bits : not (eqb (tested % 64) 0) ≡ some (stray_at e) (map bit_of conditions)
  stray-bits =
      low_bits tested
      ∙ simp (
        stray-bit 0 (omega arith),
        stray-bit 1 (omega arith),
        stray-bit 2 (omega arith),
        stray-bit 3 (omega arith),
        stray-bit 4 (omega arith),
        stray-bit 5 (omega arith),
      )

pub returns : goal.returns
returns c = stray-bits c.args.e (omega arith)
