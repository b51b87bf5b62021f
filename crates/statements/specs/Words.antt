-- The words of a line, and the numbers that words stand for. A text is the list of its bytes. Assumes nothing.
use Rattle.std.specs.Prelude.{ℕ, ◌+◌, ◌-◌, ◌*◌, ◌^◌, Bool, true, false, cond, not, ◌&&◌, List, [], ◌∷◌, length, take, drop, ◌==◌, nat_le, nat_lt, slice_index, Option, None, Some}
use Rattle.std.specs.List.{prefix_len}
use Rattle.std.specs.Str.{bytes_eq}
use Rattle.rules.specs.Bytes.{text}

-- a blank is a space or a byte below it; a word has none
abbrev pub is_blank : ℕ → Bool
is_blank b = nat_le b 32

abbrev pub in_word : ℕ → Bool
in_word b = not (is_blank b)

-- a text without the blanks before it; its first word; what follows that; and whether no word is left
unfoldable pub trimmed : List ℕ → List ℕ
trimmed s = drop (prefix_len is_blank s) s

unfoldable pub word : List ℕ → List ℕ
word s = take (prefix_len in_word (trimmed s)) (trimmed s)

unfoldable pub after : List ℕ → List ℕ
after s = drop (prefix_len in_word (trimmed s)) (trimmed s)

abbrev pub ends : List ℕ → Bool
ends s = length (word s) == 0

-- an open bound, in two's complement of 64 bits
abbrev pub no_bound : ℕ
no_bound = 2 ^ 63

-- digits, with v read before them
abbrev pub is_digit : ℕ → Bool
is_digit b = nat_le 48 b && nat_le b 57

unfoldable pub natural : ℕ → List ℕ → Option ℕ
natural v [] = Some v
natural v (b ∷ s) = cond (is_digit b) (natural (10 * v + (b - 48)) s) None

-- one to ten digits
abbrev pub unsigned : List ℕ → Option ℕ
unsigned w = cond (length w == 0) None (cond (nat_lt 10 (length w)) None (natural 0 w))

abbrev pub negative : Option ℕ → Option ℕ
negative None = None
negative (Some x) = Some (cond (x == 0) 0 (2 ^ 64 - x))

-- a number, in two's complement: `-` where it is negative, then digits
unfoldable pub number : List ℕ → Option ℕ
number w = cond (slice_index w 0 == 45) (negative (unsigned (drop 1 w))) (unsigned w)

-- a bound: `_`, which stands for a number, or a number
unfoldable pub bound : List ℕ → ℕ → Option ℕ
bound w x = cond (bytes_eq w (text "_")) (Some x) (number w)

-- a truth
unfoldable pub truth : List ℕ → Option Bool
truth w = cond (bytes_eq w (text "true")) (Some true) (cond (bytes_eq w (text "false")) (Some false) None)
