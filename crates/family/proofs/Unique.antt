-- One answer: any two that the contract of a public function permits are equal, the contract being as Rattle reads it. Those of
-- `too_many_lost` and `may_complete` fix the answer where the words are of the plan's children in some states; what other words are
-- answered is nobody's question (docs/DECISIONS.md). Assumes nothing.
use Prim.Native.Nat.{ℕ}
use mathlib.Core.Path.{◌≡◌}
use mathlib.Core.Bool.{Bool}
use mathlib.Core.List.{List}
use contract.Lifetimes.{Lfts}
use Rattle.rules.proofs.Unique.{one_answer, OneAnswer, by_equation}
use Rattle.family.specs.ChildWords.{ChildWords}
use Rattle.family.proofs.Scene.orders.Reads as orders
use Rattle.family.proofs.Scene.too_many_lost.Reads as too_many_lost
use Rattle.family.proofs.Scene.may_complete.Reads as may_complete

pub orders_once : OneAnswer orders.Post
orders_once = by_equation

-- the words being of the plan's children in states s
pub too_many_lost_once :
    (κs : Lfts 2) (a : _) (z z' : Bool) (e e' : _) → too_many_lost.Post κs a z e → too_many_lost.Post κs a z' e' → (s : List ℕ)
    → ChildWords a.0.now.table.now s a.1.0 a.0.now.sets.now → z ≡ z'
too_many_lost_once κs a z z' e e' h h' s known = one_answer (h s known) (h' s known)

pub may_complete_once :
    (κs : Lfts 2) (a : _) (z z' : Bool) (e e' : _) → may_complete.Post κs a z e → may_complete.Post κs a z' e' → (s : List ℕ)
    → ChildWords a.0.now.table.now s a.1.0 a.0.now.sets.now → z ≡ z'
may_complete_once κs a z z' e e' h h' s known = one_answer (h s known) (h' s known)
