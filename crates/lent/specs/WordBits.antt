-- Check 12 of a word by the bits that it may not have. Assumes nothing.
use Rattle.std.specs.Prelude.{ℕ, Bool, cond, not, ◌||◌, eqb}
use Rattle.std.specs.Int.Bits.{bit_and}
use Rattle.rules.specs.Table.{is_body}
use Rattle.rules.specs.Words.{contradicts}
use Rattle.rules.specs.declared.Body.{Body}
use Rattle.rules.specs.declared.Body.TheVariants.{IfThenElse}

-- bits 22, 23, 30 and 31, and 20 and 21 unless the body is if-then-else
abbrev pub unused_bits : Body → ℕ
unused_bits body = cond (is_body IfThenElse body) 0xC0C00000 0xC0F00000

-- an unused bit, a wrong pick, or what is satisfied but not satisfiable
abbrev pub wrong_bits : ℕ → Bool → ℕ → Bool
wrong_bits unused allowed x = not (eqb (bit_and x unused) 0) || not allowed || contradicts x
