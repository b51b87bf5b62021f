-- Laws of ancestors where plans have earlier parents: climbing. Assumes nothing.
use Prim.Native.Nat.{ℕ, zero, suc, ◌≤◌, ◌<◌}
use native.Mathlib.Omega.{arith}
use native.Mathlib.Decide.{ℕ_discrete}
use mathlib.Core.Path.{◌≡◌, refl, sym, ◌∙◌, ap}
use mathlib.Core.Bool.{Bool, true, false, ◌||◌, or-false}
use mathlib.Core.List.{List}
use lib.Dec.{eqb}
use borrow.Author.Tests.{eq-eqb, ne_eqb}
use Rattle.rules.specs.Table.{parent, is_or_is_above}
use Rattle.rules.proofs.Tree.{above_le}

-- a plan is itself
pub is_self : (t : List ℕ) (a k : ℕ) → is_or_is_above t a k a ≡ true
unfolding is_or_is_above
is_self t a zero = eq-eqb a a refl
is_self t a (suc k) = simp (eq-eqb a a refl)

-- one plan up
pub climb : (t : List ℕ) (a k p : ℕ) → 0 < p → is_or_is_above t a (suc k) p ≡ (eqb a p || is_or_is_above t a k (parent t p))
unfolding is_or_is_above
climb t a k p h = simp (ne_eqb p 0 (λ e. omega arith))

module _ (t : List ℕ) (m : ℕ) (down : (k : ℕ) → 0 < k → k < m → parent t k < k) where
  -- how far up is looked does not matter, once it is far enough
  enough_to : (bound a k p : ℕ) → p < bound → p < m → p ≤ k → is_or_is_above t a k p ≡ is_or_is_above t a p p
  unfolding is_or_is_above
  enough_to zero a k p b l h = absurd (omega arith)
  enough_to (suc bound) a zero zero b l h = refl
  enough_to (suc bound) a (suc k) zero b l h = or-false (eqb a 0)
  enough_to (suc bound) a zero (suc p) b l h = absurd (omega arith)
  enough_to (suc bound) a (suc k) (suc p) b l h =
      let up = down (suc p) (omega arith) l in
      climb t a k (suc p) (omega arith)
      ∙ ap (λ (c : Bool). eqb a (suc p) || c)
      (enough_to bound a k (parent t (suc p)) (omega arith) (omega arith) (omega arith)
      ∙ sym (enough_to bound a p (parent t (suc p)) (omega arith) (omega arith) (omega arith)))
      ∙ sym (climb t a p (suc p) (omega arith))

  pub enough : (a k p : ℕ) → p < m → p ≤ k → is_or_is_above t a k p ≡ is_or_is_above t a p p
  enough a k p = enough_to (suc p) a k p (omega arith)

  -- a plan that is later than a is climbed from
  pub climb_on : (a p : ℕ) → p < m → a < p → is_or_is_above t a p p ≡ is_or_is_above t a (parent t p) (parent t p)
  climb_on a zero l h = absurd (omega arith)
  climb_on a (suc p) l h =
      let up = down (suc p) (omega arith) l in
      climb t a p (suc p) (omega arith)
      ∙ rw (ne_eqb a (suc p) (λ e. omega arith)) (enough a p (parent t (suc p)) (omega arith) (omega arith))

  -- one that is not later is a, or a is not above it
  pub climb_end : (a p : ℕ) → p < m → p ≤ a → is_or_is_above t a p p ≡ eqb p a
  climb_end a p l h = go (ℕ_discrete p a) (is_or_is_above t a p p) refl
    where
      go : Dec (p ≡ a) → (b : Bool) → is_or_is_above t a p p ≡ b → is_or_is_above t a p p ≡ eqb p a
      go (yes e) b i = rw e (is_self t a a ∙ sym (eq-eqb a a refl))
      go (no n) true i = absurd (n (omega (arith, above_le t m down a p p l i)))
      go (no n) false i = i ∙ sym (ne_eqb p a n)
