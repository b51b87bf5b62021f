-- Numbers in bytes, little-endian, the bits of a number, and texts. Assumes nothing.
use Rattle.std.specs.Prelude.{ℕ, ◌+◌, ◌*◌, ◌/◌, ◌%◌, ◌^◌, Bool, List, [], ◌∷◌, get_or, eqb}
use Prim.Native.Char.{code as char_code}
use Prim.Native.String.{String, [] as none, ◌∷◌ as ◌then◌}

-- the byte, the 16-bit number and the 32-bit number at place i
abbrev pub byte_at : List ℕ → ℕ → ℕ
byte_at s i = get_or s i 0

abbrev pub u16_at : List ℕ → ℕ → ℕ
u16_at s i = byte_at s i + 256 * byte_at s (i + 1)

abbrev pub u32_at : List ℕ → ℕ → ℕ
u32_at s i = u16_at s i + 65536 * u16_at s (i + 2)

-- the number that `width` bits of x make, from bit k on
abbrev pub bits : ℕ → ℕ → ℕ → ℕ
bits k width x = x / 2 ^ k % 2 ^ width

-- bit k of x is set
abbrev pub is_set : ℕ → ℕ → Bool
is_set k x = eqb (x / 2 ^ k % 2) 1

-- a text as bytes
abbrev pub text : String → List ℕ
text none = []
text (c then cs) = char_code c ∷ text cs
