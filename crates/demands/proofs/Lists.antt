-- Laws of `some`, `first`, `last` and of ordered lists. Assumes nothing.
use Prim.Native.Nat.{ℕ, ◌≤◌, ◌<◌}
use native.Mathlib.Omega.{arith}
use mathlib.Core.Bool.{Bool, true, false, cond, ◌||◌}
use mathlib.Core.Path.{◌≡◌, refl}
use mathlib.Core.Logic.{◌⊎◌, inl, inr}
use mathlib.Core.List.Memᴰ
use mathlib.Core.List.{
  List,
  [],
  ◌∷◌,
  ◌++◌,
  Memᴰ,
}
use lib.Dec.{T}
use Rattle.rules.specs.Lists.{some, no_plan, first}
use Rattle.demands.specs.Witness.{last}
use Rattle.demands.proofs.Tests.{in_left, in_right}

-- a number of a list that passes a test
pub record Found (f : ℕ → Bool) (ks : List ℕ) (c : ℕ) : Type 0 where
  pub member : Memᴰ c ks
  pub passes : T (f c)

module _ (f : ℕ → Bool) where
  pub found_some : {c : ℕ} {ks : List ℕ} → Memᴰ c ks → T (f c) → T (some f ks)
  found_some (Memᴰ.head {x = k} {xs = ks} e) h = in_left (f k) (some f ks) (rw e at h)
  found_some (Memᴰ.tail {x = k} {xs = ks} m) h = in_right (f k) (some f ks) (found_some m h)

  later : {k c : ℕ} {ks : List ℕ} → Found f ks c → Found f (k ∷ ks) c
  later r = record { member = Memᴰ.tail r.member; passes = r.passes }

  -- where some number passes, the first and the last that do
  pub first_found : (ks : List ℕ) → T (some f ks) → Found f ks (first f ks)
  first_found [] h = absurd h
  first_found (k ∷ ks) h = go (f k) refl (first_found ks) h
    where
      go :
          (b : Bool) → f k ≡ b → (T (some f ks) → Found f ks (first f ks)) → T (b || some f ks)
          → Found f (k ∷ ks) (cond b k (first f ks))
      go true e ih x = record { member = Memᴰ.head refl; passes = rw e tt }
      go false e ih x = later (ih x)

  pub last_found : (ks : List ℕ) → T (some f ks) → Found f ks (last f ks)
  last_found [] h = absurd h
  last_found (k ∷ ks) h = go (some f ks) (f k) refl h (last_found ks)
    where
      go :
          (b c : Bool) → f k ≡ c → T (c || b) → (T b → Found f ks (last f ks))
          → Found f (k ∷ ks) (cond b (last f ks) (cond c k no_plan))
      go true c e x ih = later (ih tt)
      go false true e x ih = record { member = Memᴰ.head refl; passes = rw e tt }
      go false false e x ih = absurd x

-- strictly increasing
abbrev pub Sorted : List ℕ → Type 0
Sorted [] = Unit {0}
Sorted (k ∷ ks) = ((c : ℕ) → Memᴰ c ks → k < c) × Sorted ks

pub sorted_snoc : (ks : List ℕ) (k : ℕ) → Sorted ks → ((c : ℕ) → Memᴰ c ks → c < k) → Sorted (ks ++ (k ∷ []))
sorted_snoc [] k o h = ((λ c m. absurd (Memᴰ.not-nil m)), tt)
sorted_snoc (x ∷ ks) k o h = (above, sorted_snoc ks k o.1 (λ c m. h c (Memᴰ.tail m)))
  where
    above : (c : ℕ) → Memᴰ c (ks ++ (k ∷ [])) → x < c
    above c m = go (Memᴰ.append_cases ks m)
      where
        go : Memᴰ c ks ⊎ Memᴰ c (k ∷ []) → x < c
        go (inl a) = o.0 c a
        go (inr a) = rw (Memᴰ.eq_of_singleton a) (h x (Memᴰ.head refl))

-- in such a list the first that passes is the lowest, and the last the highest
module _ (f : ℕ → Bool) (c : ℕ) where
  pub first_le : (ks : List ℕ) → Sorted ks → Memᴰ c ks → T (f c) → first f ks ≤ c
  first_le [] o m h = absurd (Memᴰ.not-nil m)
  first_le (k ∷ ks) o (Memᴰ.head e) h = go (f k) (rw e at h)
    where
      go : (b : Bool) → T b → cond b k (first f ks) ≤ c
      go true x = omega arith
      go false x = absurd x
  first_le (k ∷ ks) o (Memᴰ.tail m) h = go (f k) (first_le ks o.1 m h) (o.0 c m)
    where
      go : (b : Bool) → first f ks ≤ c → k < c → cond b k (first f ks) ≤ c
      go true x y = omega arith
      go false x y = x

  pub last_ge : (ks : List ℕ) → Sorted ks → Memᴰ c ks → T (f c) → c ≤ last f ks
  last_ge [] o m h = absurd (Memᴰ.not-nil m)
  last_ge (k ∷ ks) o (Memᴰ.head e) h = go (some f ks) (f k) (rw e at h) (last_found f ks)
    where
      go : (b d : Bool) → T d → (T b → Found f ks (last f ks)) → c ≤ cond b (last f ks) (cond d k no_plan)
      go true d y x = omega (arith, o.0 _ (x tt).member)
      go false true y x = omega arith
      go false false y x = absurd y
  last_ge (k ∷ ks) o (Memᴰ.tail m) h = go (some f ks) (found_some f m h) (last_ge ks o.1 m h)
    where
      go : (b : Bool) → T b → c ≤ last f ks → c ≤ cond b (last f ks) (cond (f k) k no_plan)
      go true x y = y
      go false x y = absurd x
