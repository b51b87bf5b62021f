-- What `find` answers over the numbers below n, where the closure computes a test. Assumes nothing.
use Prim.Native.Nat.{ℕ, ◌≤◌, ◌<◌}
use native.Mathlib.Omega.{arith}
use mathlib.Core.Path.{◌≡◌, sym}
use mathlib.Core.Bool.{Bool, true, false}
use denote.Param.Members.{Mut}
use denote.Ref.{Bor}
use Rattle.std.specs.Prelude.{Option, Some, None}
use Rattle.std.specs.Fn.{CalledAt}
use Rattle.std.specs.Iterator.{FindsItem}
use Rattle.std.specs.Option.{MatchOption}
use Rattle.std.proofs.iter.Yields.{nat_range_steps}
use Rattle.std.proofs.lemmas.Iterator.{first_from_Range}
use Rattle.lowest.specs.Lowest.{Lowest}

module _ {F : Type 0} (test : ℕ → Bool) (n : ℕ) (f : F) where
  -- `find` answers the lowest number that passes
  pub lowest_from_find :
      {g : Mut F (Bor ℕ × Unit {0}) Bool} (u : _) (r : Option ℕ)
      → FindsItem nat_range_steps g (record { start = 0; end = n }) f r u
      → ((x : ℕ) (b : Bool) (q : F) → CalledAt g f x b q → (q ≡ f) × (b ≡ test x)) → Lowest test n r
  lowest_from_find u r ran is =
      by r (first_from_Range (record { start = 0; end = n }) u f r (λ k. test k ≡ true) (λ k. test k ≡ false) ran
      (λ x q h. sym (is x true q h).1) (λ x q h. ((is x false q h).0, sym (is x false q h).1)))
    where
      by :
          (o : Option ℕ)
          → MatchOption o ((k : ℕ) → 0 ≤ k → k < n → test k ≡ false)
          (λ i. (0 ≤ i) × (i < n) × (test i ≡ true) × ((k : ℕ) → 0 ≤ k → k < i → test k ≡ false))
          → Lowest test n o
      by None none = λ k l. none k (omega arith) l
      by (Some i) (_, l, found, before) = (l, found, λ k m. before k (omega arith) m)
