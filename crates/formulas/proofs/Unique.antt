-- One answer: any two that the contract of a public function permits are equal, the contract being as Rattle reads it. That of `wait_for`
-- fixes its answer for every set of the plan's children; what a word that is no such set is answered is nobody's question
-- (docs/DECISIONS.md). Assumes nothing.
use Prim.Native.Nat.{ℕ, ◌+◌, ◌-◌, ◌<◌}
use native.Mathlib.Omega.{arith}
use native.Mathlib.Decide.{dec_lt}
use mathlib.Core.Path.{◌≡◌}
use mathlib.Core.Bool.{Bool}
use mathlib.Core.List.{List}
use lib.ListN.{get_or}
use lib.Seq.{ext_get_or}
use contract.Lifetimes.{Lfts}
use Rattle.rules.proofs.Unique.{one_answer, OneAnswer, by_equation}
use Rattle.children.specs.Sets.{set_of}
use Rattle.formulas.specs.Asked.{Numbered}
use Rattle.formulas.proofs.find_numbers.Reads as find_numbers
use Rattle.formulas.proofs.waits_for_none.Reads as waits_for_none
use Rattle.formulas.proofs.wait_for.Reads as wait_for

pub waits_for_none_once : OneAnswer waits_for_none.Post
waits_for_none_once = by_equation

-- the words that `find_numbers` leaves are one
numbered_once : (t : List ℕ) (n : ℕ) (old new new' : List ℕ) → Numbered t n n old new → Numbered t n n old new' → new ≡ new'
numbered_once t n old new new' h h' = ext_get_or 0 new new' (one_answer h.long h'.long) (λ k l. at k (dec_lt k n) (dec_lt k (n + n)))
  where
    at : (k : ℕ) → Dec (k < n) → Dec (k < n + n) → get_or new k 0 ≡ get_or new' k 0
    at k (yes l) m = one_answer (h.before k l) (h'.before k l)
    at k (no l) (yes m) =
        let place : n + (k - n) ≡ k = omega arith in
        rw (← place) (one_answer (h.numbers (k - n) (omega arith)) (h'.numbers (k - n) (omega arith)))
    at k (no l) (no m) = one_answer (h.rest k (omega arith)) (h'.rest k (omega arith))

pub find_numbers_once :
    (κs : Lfts 2) (a : _) (z z' : _) (e e' : _) → find_numbers.Post κs a z e → find_numbers.Post κs a z' e'
    → e.1.1.0.now ≡ e'.1.1.0.now
find_numbers_once κs a z z' e e' h h' = numbered_once _ _ _ _ _ h h'

-- of a set of the plan's children the answer is one
pub wait_for_once :
    (κs : Lfts 2) (a : _) (z z' : _) (e e' : _) → wait_for.Post κs a z e → wait_for.Post κs a z' e'
    → (f : ℕ → Bool) → a.1.1.1.1.0 ≡ set_of a.0.now a.1.1.1.0 f → z ≡ z'
wait_for_once κs a z z' e e' h h' f is = one_answer (h f is) (h' f is)
