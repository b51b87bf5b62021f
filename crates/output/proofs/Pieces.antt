-- Pieces of bytes, one behind the other. Assumes nothing.
use Prim.Native.Nat.{ℕ, ◌+◌, ◌<◌}
use native.Mathlib.Numerals.{add-one}
use native.Mathlib.Omega.{arith}
use mathlib.Core.Path.{◌≡◌, refl, sym, ap, ◌∙◌, subst}
use mathlib.Core.List.{List, [], ◌∷◌, ◌++◌, append_assoc, append-nil}
use lib.ListN.{length, take, drop, set, length-append, take-append-drop}
use lib.Seq.{take-suc-set, drop-set-lt, drop-drop}
use Rattle.output.specs.Output.{Appended}

-- nothing is put yet
pub none_yet : (before : List ℕ) (at : ℕ) → Appended before at [] before at
none_yet before at = record { place = omega arith; bytes = sym (append-nil (take at before)); rest = refl }

-- one byte
pub a_byte : (before : List ℕ) (at b : ℕ) → at < length before → Appended before at (b ∷ []) (set before at b) (at + 1)
a_byte before at b l =
    record {
      place = refl;
      bytes = ap (λ (k : ℕ). take k (set before at b)) (add-one at) ∙ take-suc-set before at b l;
      rest = drop-set-lt (at + 1) before at b (omega arith);
    }

module _ {before middle : List ℕ} {at end : ℕ} {piece : List ℕ} (put : Appended before at piece middle end) where
  -- what stays past a place stays past every later one
  stays_from : (k : ℕ) → drop (end + k) middle ≡ drop (end + k) before
  stays_from k = sym (drop-drop k end middle) ∙ ap (drop k) put.rest ∙ drop-drop k end before

  -- a second piece behind the first: the two are one
  pub and_then : {after next : List ℕ} {new : ℕ} → Appended middle end next after new → Appended before at (piece ++ next) after new
  and_then {after} {next} {new} more =
      record {
        place = omega (arith, more.place, put.place, length-append piece next);
        bytes = more.bytes ∙ ap (λ (l : List ℕ). l ++ next) put.bytes ∙ append_assoc (take at before) piece next;
        rest = more.rest ∙ rw more.place (stays_from (length next));
      }

  -- one byte behind it
  pub and_byte : (b : ℕ) → end < length middle → Appended before at (piece ++ (b ∷ [])) (set middle end b) (end + 1)
  and_byte b l = and_then (a_byte middle end b l)

  -- the same piece, said otherwise
  pub as_one : {other : List ℕ} → piece ≡ other → Appended before at other middle end
  as_one e = subst (λ (p : List ℕ). Appended before at p middle end) e put

  -- all bytes of the slice
  pub whole : middle ≡ take at before ++ piece ++ drop end before
  whole =
      sym (take-append-drop end middle)
      ∙ ap (λ (l : List ℕ). l ++ drop end middle) put.bytes
      ∙ ap (λ (l : List ℕ). take at before ++ piece ++ l) put.rest

-- a piece at the start of a slice is all that stands before its end
pub from_start : {before after piece : List ℕ} {end : ℕ} → Appended before 0 piece after end → take end after ≡ piece
from_start put = put.bytes
