-- The numbers that plans ask for: what each way to ask gives, and wait-for by them. Assumes nothing.
use Prim.Native.Nat.{ℕ, zero, suc, ◌+◌, ◌*◌, ◌≤◌, ◌<◌}
use native.Mathlib.Omega.{arith}
use mathlib.Core.Path.{◌≡◌, refl, sym, ap, ◌∙◌}
use mathlib.Core.Bool.{Bool, true, false, cond, ◌&&◌}
use mathlib.Core.List.{List}
use borrow.Author.Tests.{le-leb}
use Rattle.rules.specs.Bytes.{byte_at}
use Rattle.rules.specs.Lists.{count}
use Rattle.rules.specs.Table.{plan_count, entry, named, children}
use Rattle.rules.specs.WaitFor.{asks, first_version, node, is_leaf, at_least, asked_holds, formula_holds, wait_for}
use Rattle.rules.specs.declared.Asks.{Asks}
use Rattle.rules.specs.declared.Asks.TheVariants.{Child, Not, Join, AtLeast}
use Rattle.rules.specs.declared.Node.{Node}
use Rattle.formulas.specs.Asked.{number_in, number_asked}

-- what asks for no number of named children has 256 in its place
pub no_number : (asked : Asks) → ((m : ℕ) → asked ≡ AtLeast m → ⊥) → 256 ≡ number_in asked
no_number (Child r) other = refl
no_number (Not a) other = refl
no_number (Join how a b) other = refl
no_number (AtLeast m) other = absurd (other m refl)

module _ (t : List ℕ) (p : ℕ) where
  pub first_number : first_version t ≡ true → (entry t p).wait ≡ number_asked t p
  unfolding number_asked
  first_number first = rw first refl

  module _ (second : first_version t ≡ false) where
    pub leaf_number : is_leaf t p ≡ true → 0 ≡ number_asked t p
    unfolding number_asked
    leaf_number leaf = rw (second, leaf) refl

    pub node_number : is_leaf t p ≡ false → number_in (asks (node t (entry t p).wait)) ≡ number_asked t p
    unfolding number_asked
    node_number parent = rw (second, parent) refl

-- wait-for, where its parts are known
module _ (t : List ℕ) (p : ℕ) (f : ℕ → Bool) where
  waits_first : first_version t ≡ true → at_least t p f (entry t p).wait ≡ wait_for t p f
  unfolding wait_for
  waits_first first = rw first refl

  waits_leaf : first_version t ≡ false → is_leaf t p ≡ true → true ≡ wait_for t p f
  unfolding wait_for
  waits_leaf second leaf = rw (second, leaf) refl

  waits_formula : first_version t ≡ false → is_leaf t p ≡ false → formula_holds t p f 256 (entry t p).wait ≡ wait_for t p f
  unfolding wait_for
  waits_formula second parent = rw (second, parent) refl

  -- a formula of one node that asks for a number
  one_node : (asked : Asks) → asks (node t (entry t p).wait) ≡ asked → number_in asked < 256
      → at_least t p f (number_in asked) ≡ formula_holds t p f 256 (entry t p).wait
  unfolding formula_holds
  one_node (Child r) is l = absurd (omega arith)
  one_node (Not a) is l = absurd (omega arith)
  one_node (Join how a b) is l = absurd (omega arith)
  one_node (AtLeast m) is l = ap (asked_holds t p f (formula_holds t p f 255)) (sym is)

  none_asked : at_least t p f 0 ≡ true
  none_asked = le-leb 0 (count (λ c. named (entry t c) && f c) (children t p)) (omega arith)

  -- by the number that the plan asks for, of named children
  pub by_number : number_asked t p < 256 → at_least t p f (number_asked t p) ≡ wait_for t p f
  by_number l = go (first_version t) refl (is_leaf t p) refl
    where
      go : (first : Bool) → first_version t ≡ first → (leaf : Bool) → is_leaf t p ≡ leaf → at_least t p f (number_asked t p) ≡ wait_for t p f
      go true e leaf e' = ap (at_least t p f) (sym (first_number t p e)) ∙ waits_first e
      go false e true e' =
          ap (at_least t p f) (sym (leaf_number t p e e')) ∙ none_asked ∙ waits_leaf e e'
      go false e false e' =
          let number = node_number t p e e' in
          ap (at_least t p f) (sym number) ∙ one_node _ refl (omega (arith, number)) ∙ waits_formula e e'

  pub none_waited : number_asked t p ≡ 0 → true ≡ wait_for t p f
  none_waited is = sym (ap (at_least t p f) is ∙ none_asked) ∙ by_number (omega arith)

  -- and, where that is none, by the plan's formula
  pub by_formula :
      (entry t p).wait < 256 → number_asked t p ≡ 256
      → (first_version t ≡ false) × ((is_leaf t p ≡ false) × (formula_holds t p f 256 (entry t p).wait ≡ wait_for t p f))
  by_formula l is = go (first_version t) refl (is_leaf t p) refl
    where
      go :
          (first : Bool) → first_version t ≡ first → (leaf : Bool) → is_leaf t p ≡ leaf
          → (first_version t ≡ false) × ((is_leaf t p ≡ false) × (formula_holds t p f 256 (entry t p).wait ≡ wait_for t p f))
      go true e leaf e' = absurd (omega (arith, first_number t p e))
      go false e true e' = absurd (omega (arith, leaf_number t p e e'))
      go false e false e' = (e, (e', waits_formula e e'))

-- the number that a plan asks for is a byte's or 256
module _ (t : List ℕ) (bytes : (i : ℕ) → byte_at t i < 256) where
  in_node : (e : Node) → e.a < 256 → number_in (asks e) ≤ 256
  in_node e l = by_kind e.kind refl
    where
      by_kind : (k : ℕ) → e.kind ≡ k → number_in (asks e) ≤ 256
      by_kind zero is = rw is (omega arith)
      by_kind (suc zero) is = rw is (omega arith)
      by_kind (suc (suc zero)) is = rw is (omega arith)
      by_kind (suc (suc (suc zero))) is = rw is (omega arith)
      by_kind (suc (suc (suc (suc zero)))) is = rw is (omega arith)
      by_kind (suc (suc (suc (suc (suc k))))) is = rw is (omega arith)

  pub wait_small : (p : ℕ) → (entry t p).wait < 256
  wait_small p = bytes (8 + 8 * p + 7)

  pub number_small : (p : ℕ) → number_asked t p ≤ 256
  unfolding number_asked
  number_small p = go (first_version t) (is_leaf t p)
    where
      go : (first leaf : Bool) → cond first (entry t p).wait (cond leaf 0 (number_in (asks (node t (entry t p).wait)))) ≤ 256
      go true leaf = omega (arith, wait_small p)
      go false true = omega arith
      go false false =
          let at = 10 + 8 * plan_count t + 4 * (entry t p).wait in
          in_node (node t (entry t p).wait) (bytes (at + 1))
