-- Check 12 of a word in a record, by the bits that were found for its plan. Assumes nothing.
use Prim.Native.Nat.{ℕ, ◌<◌}
use mathlib.Core.Path.{◌≡◌, ap, ◌∙◌}
use mathlib.Core.List.{List}
use lib.Dec.{eqb}
use Rattle.rules.specs.Table.{entry, body_of}
use Rattle.rules.specs.Words.{word, pick_of}
use Rattle.rules.specs.Answers.{bad_record_word}
use Rattle.lent.specs.WordBits.{wrong_bits}
use Rattle.lent.proofs.WordBits.{wrong_is}
use Rattle.parts.specs.OneStep.{Unused, wrong_at}

pub wrong_at_lem : (t unused w : List ℕ) (n : ℕ) → Unused t n unused → (p : ℕ) → p < n → wrong_at unused w p ≡ bad_record_word t w p
unfolding bad_record_word
wrong_at_lem t unused w n found p l =
    let x = word w p in
    let allowed = eqb (pick_of x) 0 in
    ap (λ (bits : ℕ). wrong_bits bits allowed x) (found.bits p l) ∙ wrong_is x (body_of (entry t p)) allowed
