-- One answer: any two that the contract of `put` or `put_byte` permits are equal, and so is what the slice then holds. The contract is
-- taken as Rattle reads it. Assumes nothing.
use Prim.Native.Nat.{ℕ}
use mathlib.Core.Path.{◌≡◌, sym, ap, ◌∙◌}
use mathlib.Core.List.{List, ◌++◌}
use lib.ListN.{take, drop}
use Rattle.output.specs.Output.{Appended}
use Rattle.output.proofs.Pieces.{whole}
use Rattle.output.proofs.put.Reads as put
use Rattle.output.proofs.put_byte.Reads as put_byte

pub appended_once :
    {before piece after after' : List ℕ} {at end end' : ℕ} → Appended before at piece after end → Appended before at piece after' end'
    → (end ≡ end') × (after ≡ after')
appended_once {before} {piece} {after} {after'} {at} {end} {end'} h h' =
    let ends : end ≡ end' = h.place ∙ sym h'.place in
    (ends, whole h ∙ ap (λ (k : ℕ). take at before ++ piece ++ drop k before) ends ∙ sym (whole h'))

pub put_once :
    (κs : _) (a : _) (z z' : _) (e e' : _) → put.Post κs a z e → put.Post κs a z' e' → (z ≡ z') × (e.1.0.now ≡ e'.1.0.now)
put_once κs a z z' e e' h h' = appended_once h h'

pub put_byte_once :
    (κs : _) (a : _) (z z' : _) (e e' : _) → put_byte.Post κs a z e → put_byte.Post κs a z' e'
    → (z ≡ z') × (e.1.0.now ≡ e'.1.0.now)
put_byte_once κs a z z' e e' h h' = appended_once h h'
