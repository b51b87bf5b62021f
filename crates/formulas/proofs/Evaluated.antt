-- What a formula says of a set of children, read off the word of the set: what each kind of node asks, one node after the other.
-- Assumes nothing.
use Prim.Native.Nat.{ℕ, zero, suc, ◌+◌, ◌-◌, ◌≤◌, ◌<◌}
use native.Mathlib.Omega.{arith}
use mathlib.Core.Path.{◌≡◌, sym, ap, ◌∙◌}
use mathlib.Core.Bool.{Bool, false, not, ◌&&◌, ◌||◌}
use mathlib.Core.List.{List, [], ◌∷◌, map}
use lib.Bits.{bit_and}
use lib.Count.{ones}
use lib.Dec.{leb}
use borrow.Author.Tests.{leb-false}
use Rattle.rules.specs.Bytes.{is_set}
use Rattle.rules.specs.Lists.{some}
use Rattle.rules.specs.Table.{plan_count, entry, named, children}
use Rattle.rules.specs.WaitFor.{asks, operands, node_count, node, is_leaf, at_least, child_passes, asked_holds, formula_holds}
use Rattle.rules.specs.Answers.{stray_first}
use Rattle.rules.proofs.Tree.{or_left, or_right}
use Rattle.children.specs.Sets.{set_of, set_before}
use Rattle.children.proofs.Sets.{set_and, set_ones}
use Rattle.children.proofs.Bits.{digit_bits}
use Rattle.formulas.specs.Asked.{Formed, TellsFormula}
use Rattle.rules.specs.declared.Asks.{Asks}

-- the bit of a rank, and the number of named children in a set
pub child_bit : (t : List ℕ) (q r : ℕ) (f : ℕ → Bool) → is_set r (set_of t q f) ≡ child_passes t q f r
unfolding set_of set_before children
child_bit t q r f = digit_bits (map f (children t q)) r

pub named_ones :
    (t : List ℕ) (q m : ℕ) (f : ℕ → Bool)
    → leb m (ones (bit_and (set_of t q (λ c. named (entry t c))) (set_of t q f))) ≡ at_least t q f m
named_ones t q m f =
    ap (leb m) (ap ones (set_and t q (λ c. named (entry t c)) f) ∙ set_ones t q (λ c. named (entry t c) && f c))

-- operands of a node are above it and there
module _ (t : List ℕ) (formed : Formed t) (i : ℕ) (l : i < node_count t) where
  first_up :
      (o : ℕ) (os : List ℕ) → some (λ x. leb x i || leb (node_count t) x) (o ∷ os) ≡ false → (i < o) × (o < node_count t)
  first_up o os e =
      let own = or_left (leb o i || leb (node_count t) o) _ e in
      (leb-false o i (or_left (leb o i) _ own), leb-false (node_count t) o (or_right (leb o i) _ own))

  pub only_up : (a : ℕ) → operands (asks (node t i)) ≡ a ∷ [] → (i < a) × (a < node_count t)
  only_up a e = first_up a [] (ap (some (λ x. leb x i || leb (node_count t) x)) (sym e) ∙ formed.up i l)

  pub both_up :
      (a b : ℕ) → operands (asks (node t i)) ≡ a ∷ b ∷ [] → ((i < a) × (a < node_count t)) × ((i < b) × (b < node_count t))
  both_up a b e =
      let bad = ap (some (λ x. leb x i || leb (node_count t) x)) (sym e) ∙ formed.up i l in
      (first_up a (b ∷ []) bad, first_up b [] (or_right (leb a i || leb (node_count t) a) _ bad))

-- a node's formula, where what it asks is known
module _ (t : List ℕ) (q i : ℕ) (f : ℕ → Bool) where
  pub by_asked :
      (asked : Asks) (r : Bool) → asks (node t i) ≡ asked → i < 256
      → ((k : ℕ) → 256 ≤ k + suc i → r ≡ asked_holds t q f (formula_holds t q f k) asked)
      → (k : ℕ) → 256 ≤ k + i → r ≡ formula_holds t q f k i
  unfolding formula_holds
  by_asked asked r e l says zero h = absurd (omega arith)
  by_asked asked r e l says (suc k) h = says k (omega arith) ∙ ap (asked_holds t q f (formula_holds t q f k)) (sym e)

-- an operand may be asked: it is there, and 256 minus its number is less than 256 minus that of its node
pub may_ask :
    (t : List ℕ) → Formed t → (i o w fuel : ℕ) → (i < o) × (o < node_count t) → 256 - i ≡ fuel → w ≡ o
    → (256 - w < fuel) × (Formed t × (w < node_count t))
may_ask t formed i o w fuel up is same = (omega (arith, up.0, up.1, formed.few), (formed, omega (arith, up.1)))

-- and what it then says of the set
pub says :
    (t : List ℕ) (q names set : ℕ) (f : ℕ → Bool) → names ≡ set_of t q (λ c. named (entry t c)) → set ≡ set_of t q f
    → (i o w j : ℕ) (r : Bool) → TellsFormula t names set w r → w ≡ o → i < o → 256 ≤ j + suc i → r ≡ formula_holds t q f j o
says t q names set f en es i o w j r tells same up h = tells q f j en es (omega arith) ∙ ap (formula_holds t q f j) same

-- the first node of a plan with children is there
pub first_there : (t : List ℕ) → Formed t → (p : ℕ) → p < plan_count t → is_leaf t p ≡ false → (entry t p).wait < node_count t
unfolding stray_first
first_there t formed p l parent =
    leb-false (node_count t) (entry t p).wait
    (sym (ap (λ (b : Bool). not b && leb (node_count t) (entry t p).wait) parent) ∙ formed.first p l)
