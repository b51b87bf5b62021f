-- `PlanEntry::holding` meets its contract: a bit of the word that it answers is what the definition says of the bits at its place.
-- Assumes nothing.
use Rattle.std.proofs.Common.{◌≡◌, refl, Bool, true, false, cond, not, ◌&&◌, ◌||◌, ℕ, ◌+◌, ◌^◌, ◌<◌, arith}
use Rattle.rules.specs.Bytes.{is_set}
use Rattle.rules.specs.Table.{bit_of}
use Rattle.rules.specs.Words.{present_holds, absent_holds, holds}
use Rattle.rules.specs.declared.Condition.{Condition}
use Rattle.rules.specs.declared.Condition.TheVariants.{Filter, Setup, Suspend, Reactivate, Abort, Complete}
use Rattle.rules.proofs.Digits.{and_set, or_set, shift_set, not_set}
use Rattle.rules.proofs.PlanEntry.holding.Goals as goal

-- the code's ABSENT_HOLDS
abbrev absent_bits : ℕ
absent_bits = 2 ^ 0 + 2 ^ 1 + 2 ^ 3 + 2 ^ 5

absent_bit : (c : Condition) → is_set (bit_of c) absent_bits ≡ absent_holds c
absent_bit Filter = refl
absent_bit Setup = refl
absent_bit Suspend = refl
absent_bit Reactivate = refl
absent_bit Abort = refl
absent_bit Complete = refl

bit_fits : (c : Condition) → bit_of c < 32
bit_fits Filter = omega arith
bit_fits Setup = omega arith
bit_fits Suspend = omega arith
bit_fits Reactivate = omega arith
bit_fits Abort = omega arith
bit_fits Complete = omega arith

-- a mask and its complement choose between two bits
chosen : (p a b : Bool) → (p && a || not p && b) ≡ cond p a b
chosen true true b = refl
chosen true false b = refl
chosen false a b = refl

pub returns : goal.returns
unfolding holds
returns c condition =
    let e = c.args.self in
    let x = c.args.word in
    let k = bit_of condition in
    let h = bit_fits condition in
    let manual_flips = not_set 32 k e.manual h (omega (arith, c.well_formed)) in
    let present_flips = not_set 32 k e.present h (omega (arith, c.well_formed)) in
    simp (c.from-present.ensures, c.from-manual.ensures, c.from-overridable.ensures, or_set, and_set, shift_set k 8 x, shift_set k 14 x, manual_flips, present_flips, absent_bit condition)
    (chosen (is_set k e.present) (present_holds k e x) (absent_holds condition))
