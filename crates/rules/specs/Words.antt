-- Document 01, 'Input words', with bits 20 and 21 of document 02 (i): the bits of a word, how (iii) makes those of a pattern, and when a
-- condition holds or is satisfiable. Assumes nothing.
use Rattle.std.specs.Prelude.{ℕ, ◌+◌, ◌-◌, ◌*◌, ◌^◌, Bool, true, false, cond, not, ◌&&◌, ◌||◌, List, eqb, ltb}
use Rattle.std.specs.Int.Bits.{bit_and, bit_or}
use Rattle.rules.specs.Bytes.{u32_at, bits, is_set}
use Rattle.rules.specs.Table.{is_body, bit_of}
use Rattle.rules.specs.declared.Body.{Body}
use Rattle.rules.specs.declared.Body.TheVariants.{AnyOrder, IfThenElse}
use Rattle.rules.specs.declared.PlanEntry.{PlanEntry}
use Rattle.rules.specs.declared.Condition.{Condition}
use Rattle.rules.specs.declared.Condition.TheVariants.{Filter, Setup, Suspend, Reactivate, Abort, Complete}
use Rattle.rules.specs.declared.Pattern.{Pattern}
use Rattle.rules.specs.declared.Pattern.TheVariants.{Of, If}

-- the word of plan p among the words of a step
abbrev pub word : List ℕ → ℕ → ℕ
word w p = u32_at w (4 * p)

-- the pick of a word, bits 24 to 29
abbrev pub pick_of : ℕ → ℕ
pick_of x = bits 24 6 x

-- a pick that a plan with so many children may make: a child's rank if its body is any-order, else 0
abbrev pub pick_allowed : Body → ℕ → ℕ → Bool
pick_allowed body child_count pick = cond (is_body AnyOrder body) (ltb pick child_count) (eqb pick 0)

-- of a plan whose body is if-then-else: its condition is satisfied (bit 20), and still can be (bit 21)
abbrev pub if_satisfied : ℕ → Bool
if_satisfied x = is_set 20 x

abbrev pub if_satisfiable : ℕ → Bool
if_satisfiable x = is_set 21 x

-- other bits: 22, 23, 30 and 31, and 20 and 21 unless the body is if-then-else
abbrev pub other_bits : Body → ℕ → Bool
other_bits body x =
    not (eqb (bits 22 2 x) 0)
    || not (eqb (bits 30 2 x) 0)
    || not (is_body IfThenElse body) && (if_satisfied x || if_satisfiable x)

-- of filter and setup: satisfied but not satisfiable, by the two bits alone
abbrev pub satisfied_only : Condition → ℕ → Bool
satisfied_only c x = is_set (bit_of c) x && not (is_set (6 + bit_of c) x)

-- filter, setup or if-then-else is so, whether or not the plan has it
abbrev pub contradicts : ℕ → Bool
contradicts x = satisfied_only Filter x || satisfied_only Setup x || if_satisfied x && not (if_satisfiable x)

-- What is known of a pattern, put into a word of 32 bits: satisfied in the bits `first`, satisfiable in the bits `second`; all others stay.
-- `bit_and` and `bit_or` go bit by bit.
abbrev pub with_bits : ℕ → ℕ → Bool → Bool → ℕ → ℕ
with_bits first second satisfied satisfiable x =
    bit_or (bit_or (bit_and x (2 ^ 32 - 1 - bit_or first second)) (cond satisfied first 0)) (cond satisfiable second 0)

-- the bit that says of a condition that it still can be: of filter and of setup, and none of the others
abbrev pub satisfiable_bits : Condition → ℕ
satisfiable_bits Filter = 2 ^ 6
satisfiable_bits Setup = 2 ^ 7
satisfiable_bits Suspend = 0
satisfiable_bits Reactivate = 0
satisfiable_bits Abort = 0
satisfiable_bits Complete = 0

-- a condition's own bits, or bits 20 and 21 of if-then-else
abbrev pub with_pattern : Pattern → Bool → Bool → ℕ → ℕ
with_pattern (Of c) satisfied satisfiable x = with_bits (2 ^ bit_of c) (satisfiable_bits c) satisfied satisfiable x
with_pattern If satisfied satisfiable x = with_bits (2 ^ 20) (2 ^ 21) satisfied satisfiable x

-- a present condition, at bit k: (pattern satisfied, and triggered if it is manual) or (overridable and overridden)
abbrev pub present_holds : ℕ → PlanEntry → ℕ → Bool
present_holds k e x =
    is_set k x && (not (is_set k e.manual) || is_set (8 + k) x)
    || is_set k e.overridable && is_set (14 + k) x

-- absent filter, setup, reactivate and complete always hold, absent suspend and abort never do
abbrev pub absent_holds : Condition → Bool
absent_holds Filter = true
absent_holds Setup = true
absent_holds Suspend = false
absent_holds Reactivate = true
absent_holds Abort = false
absent_holds Complete = true

unfoldable pub holds : Condition → PlanEntry → ℕ → Bool
holds c e x = cond (is_set (bit_of c) e.present) (present_holds (bit_of c) e x) (absent_holds c)

-- of filter and setup only: absent, or its bit says so, or it is overridable
unfoldable pub satisfiable : Condition → PlanEntry → ℕ → Bool
satisfiable c e x = not (is_set (bit_of c) e.present) || is_set (6 + bit_of c) x || is_set (bit_of c) e.overridable
