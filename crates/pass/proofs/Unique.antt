-- One answer: any two lists of new states that the contract of `advance` permits are one, and so are the picks that `take_picks` leaves,
-- the causes that `tell_causes` leaves, the states that `take_over` leaves, and what `unchanged` answers. The contract is taken as Rattle
-- reads it: `Post κs a z e`, of the lifetimes, the arguments, the answer and the parameters at exit, arguments and parameters in the order
-- of the declaration. Assumes nothing.
use Prim.Native.Nat.{ℕ}
use mathlib.Core.Path.{◌≡◌, sym, ap, ◌∙◌}
use mathlib.Core.List.{List}
use contract.Lifetimes.{Lfts}
use lib.ListN.{get_or}
use lib.Seq.{get_or-take}
use Rattle.rules.proofs.Unique.{one_answer, OneAnswer, by_equation}
use Rattle.children.proofs.Unique.{written_once}
use Rattle.pass.proofs.advance.Reads as advance
use Rattle.pass.proofs.take_picks.Reads as take_picks
use Rattle.pass.proofs.take_over.Reads as take_over
use Rattle.pass.proofs.tell_causes.Reads as tell_causes
use Rattle.pass.proofs.unchanged.Reads as unchanged

pub unchanged_once : OneAnswer unchanged.Post
unchanged_once = by_equation

pub take_over_once :
    (κs : Lfts 2) (a : _) (z z' : _) (e e' : _) → take_over.Post κs a z e → take_over.Post κs a z' e'
    → e.1.0.now ≡ e'.1.0.now
take_over_once κs a z z' e e' h h' = one_answer h h'

pub tell_causes_once :
    (κs : Lfts 5) (a : _) (z z' : _) (e e' : _) → tell_causes.Post κs a z e → tell_causes.Post κs a z' e'
    → e.1.1.1.1.0.now ≡ e'.1.1.1.1.0.now
tell_causes_once κs a z z' e e' h h' = one_answer h h'

pub take_picks_once :
    (κs : Lfts 2) (a : _) (z z' : _) (e e' : _) → take_picks.Post κs a z e → take_picks.Post κs a z' e'
    → e.1.1.0.now ≡ e'.1.1.0.now
take_picks_once κs a z z' e e' h h' =
    written_once a.1.0 _ _ _ h.1 h'.1 (λ q l. one_answer (h.0.taken q l) (h'.0.taken q l))

pub advance_once :
    (κs : Lfts 3) (a : _) (z z' : _) (e e' : _) → advance.Post κs a z e → advance.Post κs a z' e'
    → e.1.0.now ≡ e'.1.0.now
advance_once κs a z z' e e' h h' =
    let n : ℕ = a.0.now.n in
    written_once n _ _ _ h.1 h'.1
    (λ k l.
    sym (get_or-take n e.1.0.now k 0 l)
    ∙ ap (λ (x : List ℕ). get_or x k 0) (one_answer h.0 h'.0)
    ∙ get_or-take n e'.1.0.now k 0 l)
