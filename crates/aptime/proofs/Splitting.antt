-- A text's first line, and the lines after it. Assumes nothing.
use Rattle.std.proofs.Common.{◌≡◌, ℕ, suc, ◌+◌, ◌<◌, Bool, true, false, cond, not, eqb, List, [], ◌∷◌, length, take, drop, refl, sym, ap, add-one, arith, ◌∙◌, take_all, drop_of_length-le, eqb-true, Option, Some, None}
use mathlib.Core.Bool.{false≢true}
use Rattle.std.specs.List.{prefix_len, HoldsAt, AllWithin}
use Rattle.std.specs.Option.{MatchOption, unwrap_or}
use Rattle.statements.proofs.Scanning.{stretch}
use Rattle.aptime.specs.Lines.{onto, lines}

-- a byte of a line
abbrev pub in_line : ℕ → Bool
in_line b = not (eqb b 10)

-- what is shown of each text that is not empty
FirstLine : List ℕ → Type 0
FirstLine [] = Unit {0}
FirstLine (b ∷ s) =
    lines (b ∷ s) ≡ take (prefix_len in_line (b ∷ s)) (b ∷ s) ∷ lines (drop (suc (prefix_len in_line (b ∷ s))) (b ∷ s))

longer :
    (b : ℕ) (s : List ℕ) → FirstLine s
    → onto b (lines s) ≡ (b ∷ take (prefix_len in_line s) s) ∷ lines (drop (suc (prefix_len in_line s)) s)
unfolding FirstLine lines
longer b [] e = refl
longer b (x ∷ s) e = ap (onto b) e

by_newline :
    (b : ℕ) (s : List ℕ) → FirstLine s → (newline : Bool)
    → cond newline ([] ∷ lines s) (onto b (lines s))
    ≡ take (cond (not newline) (1 + prefix_len in_line s) 0) (b ∷ s)
    ∷ lines (drop (suc (cond (not newline) (1 + prefix_len in_line s) 0)) (b ∷ s))
by_newline b s e true = refl
by_newline b s e false = let one : 1 + prefix_len in_line s ≡ suc (prefix_len in_line s) = omega arith in rw one (longer b s e)

first : (s : List ℕ) → FirstLine s
unfolding FirstLine lines
first [] = tt
first (b ∷ s) = by_newline b s (first s) (eqb b 10)

first_line : (s : List ℕ) (k : ℕ) → eqb (length s) 0 ≡ false → prefix_len in_line s ≡ k → lines s ≡ take k s ∷ lines (drop (k + 1) s)
unfolding FirstLine
first_line [] k l e = absurd (false≢true (sym l))
first_line (b ∷ s) k l e = rw (add-one k, ← e) (first (b ∷ s))

-- a text that is empty has no line
pub no_line : (s : List ℕ) → eqb (length s) 0 ≡ true → lines s ≡ []
unfolding lines
no_line [] e = refl
no_line (b ∷ s) e = let zero = eqb-true (length (b ∷ s)) 0 e in absurd (omega arith)

-- the lines of any other: the first ends at the first newline, or with the text
abbrev pub Newline : List ℕ → Option ℕ → Type 0
Newline s r =
    MatchOption r (AllWithin (λ b. in_line b ≡ true) s 0 (length s))
    (λ i. (i < length s) × HoldsAt (λ b. in_line b ≡ false) s i × AllWithin (λ b. in_line b ≡ true) s 0 i)

pub to_newline :
    (s : List ℕ) (r : Option ℕ) (k : ℕ) → eqb (length s) 0 ≡ false → Newline s r → r ≡ Some k
    → lines s ≡ take k s ∷ lines (drop (k + 1) s)
to_newline s r k l n e = first_line s k l (stretch in_line s r n ∙ ap (λ (o : Option ℕ). unwrap_or o (length s)) e)

pub to_end :
    (s : List ℕ) (r : Option ℕ) → eqb (length s) 0 ≡ false → Newline s r → r ≡ None → lines s ≡ s ∷ lines []
to_end s r l n e =
    first_line s (length s) l (stretch in_line s r n ∙ ap (λ (o : Option ℕ). unwrap_or o (length s)) e)
    ∙ rw (take_all (length s) s (omega arith), drop_of_length-le s {i = length s + 1} (omega arith)) refl
