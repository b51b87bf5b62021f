-- Wait-for by a number of named children. A table of version 1 says the number in byte 7, one of version 2 in a node of kind 5: where the
-- two have the same plans otherwise and the same numbers, they are alike. Assumes nothing.
use Prim.Native.Nat.{ℕ, ◌<◌}
use native.Mathlib.Omega.{arith}
use mathlib.Core.Bool.{Bool, true, false, ◌&&◌, ◌||◌}
use mathlib.Core.Path.{◌≡◌, refl, sym, ◌∙◌, ap}
use mathlib.Core.List.{List}
use lib.Dec.{leb, ltb}
use borrow.Author.Tests.{le-leb, le-ltb}
use Rattle.rules.specs.Lists.{count}
use Rattle.rules.specs.Table.{version, plan_count, entry, named, children}
use Rattle.rules.specs.WaitFor.{asks, node, is_leaf, at_least, asked_holds, formula_holds, wait_for}
use Rattle.rules.specs.Answers.{too_many}
use Rattle.rules.specs.declared.Asks.TheVariants.{AtLeast}
use Rattle.alike.proofs.Agree.{count_children}
use Rattle.alike.proofs.SamePlans.{SamePlans, plan_as, leaf_as, children_as}
use Rattle.alike.proofs.Alike.{Alike}
use Rattle.faithful.proofs.Passing.{is_first, is_second}

module _ {t u : List ℕ} (s : SamePlans t u) where
  -- the children of a plan count the same, by whether they are named
  named_as :
      (p : ℕ) (test : Bool → ℕ → Bool)
      → count (λ c. test (named (entry u c)) c) (children u p) ≡ count (λ c. test (named (entry t c)) c) (children t p)
  named_as p test =
      ap (count (λ c. test (named (entry u c)) c)) (children_as s p)
      ∙ count_children _ _ t (λ c l. ap (λ (b : Bool). test b c) (plan_as s named (λ x e. refl) c l)) p

  at_least_as : (p : ℕ) (f : ℕ → Bool) (m : ℕ) → at_least u p f m ≡ at_least t p f m
  at_least_as p f m = ap (leb m) (named_as p (λ b c. b && f c))

  pub too_many_as : (p m : ℕ) → too_many u p m ≡ too_many t p m
  unfolding too_many
  too_many_as p m = ap (λ (k : ℕ). ltb k m) (named_as p (λ b c. b))

-- nobody has fewer than no named children
pub none_too_many : (t : List ℕ) (p m : ℕ) → m ≡ 0 → too_many t p m ≡ false
unfolding too_many
none_too_many t p m e = le-ltb _ m (omega arith)

-- t, of version 1, has the number that the first node of each formula of u, of version 2, asks for; a leaf of t has the number 0
pub record SameNumbers (t u : List ℕ) : Type 0 where
  pub first : version t ≡ 1
  pub second : version u ≡ 2
  pub same : SamePlans t u
  pub leaves : (p : ℕ) → p < plan_count t → is_leaf t p ≡ true → (entry t p).wait ≡ 0
  pub parents : (p : ℕ) → p < plan_count t → is_leaf t p ≡ false → asks (node u (entry u p).wait) ≡ AtLeast (entry t p).wait

module _ {t u : List ℕ} (n : SameNumbers t u) (p : ℕ) (l : p < plan_count t) (f : ℕ → Bool) where
  -- wait-for in each version
  in_first : wait_for t p f ≡ at_least t p f (entry t p).wait
  unfolding wait_for
  in_first = rw (is_first t n.first)

  in_second : wait_for u p f ≡ (is_leaf u p || formula_holds u p f 256 (entry u p).wait)
  unfolding wait_for
  in_second = rw (is_second u n.second)

  -- a formula that is one node
  by_node : (m : ℕ) → asks (node u (entry u p).wait) ≡ AtLeast m → formula_holds u p f 256 (entry u p).wait ≡ at_least u p f m
  unfolding formula_holds
  by_node m e = ap (asked_holds u p f (formula_holds u p f 255)) e

  same_wait : wait_for u p f ≡ wait_for t p f
  same_wait =
      in_second
      ∙ ap (λ (b : Bool). b || formula_holds u p f 256 (entry u p).wait) (leaf_as n.same p l)
      ∙ go (is_leaf t p) refl
      ∙ sym in_first
    where
      go : (leaf : Bool) → is_leaf t p ≡ leaf → (leaf || formula_holds u p f 256 (entry u p).wait) ≡ at_least t p f (entry t p).wait
      go true e = sym (le-leb (entry t p).wait _ (omega (arith, n.leaves p l e)))
      go false e = by_node (entry t p).wait (n.parents p l e) ∙ at_least_as n.same p f (entry t p).wait

pub same_numbers_alike : {t u : List ℕ} → SameNumbers t u → Alike t u
same_numbers_alike n = record { plans = n.same.plans; entries = n.same.entries; waits = same_wait n }
