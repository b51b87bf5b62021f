-- What `any` answers over the numbers below n, where the closure computes a test. Assumes nothing.
use Prim.Native.Nat.{ℕ, ◌<◌}
use native.Mathlib.Omega.{arith}
use mathlib.Core.Path.{◌≡◌, refl, sym, subst}
use mathlib.Core.Bool.{Bool, true, false}
use mathlib.Core.List.{List}
use lib.ListN.{length, get_or}
use denote.Param.Members.{Mut}
use Rattle.std.specs.Fn.{Called}
use Rattle.std.specs.Iterator.{ChecksAny}
use Rattle.std.specs.Bool.{MatchBool}
use Rattle.std.specs.List.{range_with_len, HoldsAt, AllWithin}
use Rattle.std.proofs.iter.Yields.{nat_range_steps}
use Rattle.std.proofs.lemmas.Iterator.{cases_from_any, YieldsList-from_range}
use Rattle.std.proofs.lemmas.List.FromFn.{length-range_with_len, get_or-range_with_len}
use Rattle.rules.specs.Lists.{some_below}
use Rattle.rules.proofs.Below.{none_below, some_below_lem}

module _ {F : Type 0} (test : ℕ → Bool) (n : ℕ) (f : F) where
  -- `any` answers whether some number passes
  pub some_from_any :
      {g : Mut F (ℕ × Unit {0}) Bool} (u : _) (r : Bool)
      → ChecksAny nat_range_steps g (record { start = 0; end = n }) f r u
      → ((x : ℕ) (b : Bool) (q : F) → Called g f (x, tt) b q → (q ≡ f) × (b ≡ test x)) → r ≡ some_below test n
  some_from_any u r ran is =
      by r (cases_from_any u f r (λ k. test k ≡ true) (λ k. test k ≡ false) ran (YieldsList-from_range 0 n n refl (omega arith))
      (λ x q h. sym (is x true q h).1) (λ x q h. ((is x false q h).0, sym (is x false q h).1)))
    where
      all : List ℕ
      all = range_with_len 0 n

      long : length all ≡ n
      long = length-range_with_len 0 n

      at : (k : ℕ) → k < n → get_or all k 0 ≡ k
      at k l = omega (arith, get_or-range_with_len 0 n k 0 l)

      by :
          (b : Bool)
          → MatchBool b ((k : ℕ) × (k < length all) × HoldsAt (λ i. test i ≡ true) all k)
          (AllWithin (λ i. test i ≡ false) all 0 (length all))
          → b ≡ some_below test n
      by true (k, l, found) =
          sym (some_below_lem test n k (omega (arith, long)) (subst (λ (i : ℕ). test i ≡ true) (at k (omega (arith, long))) (found 0)))
      by false none =
          sym (none_below test n (λ k l. subst (λ (i : ℕ). test i ≡ false) (at k l) (none k 0 (omega arith) (omega (arith, long)))))
