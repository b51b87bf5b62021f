-- Two tests agree on the children of a plan: then they count as many of them, both pass some or none, and find the same first one. Assumes
-- nothing.
use Prim.Native.Nat.{ℕ, zero, suc, ◌<◌}
use native.Mathlib.Omega.{arith}
use mathlib.Core.Bool.{Bool, true, false, cond}
use mathlib.Core.Path.{◌≡◌, refl}
use mathlib.Core.List.{List, [], ◌∷◌, ◌++◌}
use Rattle.rules.specs.Lists.{some, count, first}
use Rattle.rules.specs.Table.{plan_count, is_child, children_before, children}

module _ (f g : ℕ → Bool) where
  -- on every number of a list
  abbrev Agree : List ℕ → Type 0
  Agree [] = Unit
  Agree (k ∷ ks) = (f k ≡ g k) × Agree ks

  agree_append : (ks ls : List ℕ) → Agree ks → Agree ls → Agree (ks ++ ls)
  agree_append [] ls a b = b
  agree_append (k ∷ ks) ls a b = (a.0, agree_append ks ls a.1 b)

  agree_below : (t : List ℕ) (q n : ℕ) → ((c : ℕ) → c < n → f c ≡ g c) → Agree (children_before t q n)
  unfolding children_before
  agree_below t q zero h = tt
  agree_below t q (suc n) h =
      agree_append (children_before t q n) (cond (is_child t q n) (n ∷ []) []) (agree_below t q n (λ c l. h c (omega arith)))
      (last (is_child t q n))
    where
      last : (b : Bool) → Agree (cond b (n ∷ []) [])
      last true = (h n (omega arith), tt)
      last false = tt

  count_as : (ks : List ℕ) → Agree ks → count f ks ≡ count g ks
  count_as [] a = refl
  count_as (k ∷ ks) a = rw (a.0, count_as ks a.1)

  some_as : (ks : List ℕ) → Agree ks → some f ks ≡ some g ks
  some_as [] a = refl
  some_as (k ∷ ks) a = rw (a.0, some_as ks a.1)

  first_as : (ks : List ℕ) → Agree ks → first f ks ≡ first g ks
  first_as [] a = refl
  first_as (k ∷ ks) a = rw (a.0, first_as ks a.1)

  module _ (t : List ℕ) (h : (c : ℕ) → c < plan_count t → f c ≡ g c) (q : ℕ) where
    agree : Agree (children t q)
    unfolding children
    agree = agree_below t q (plan_count t) h

    pub count_children : count f (children t q) ≡ count g (children t q)
    count_children = count_as (children t q) agree

    pub some_child : some f (children t q) ≡ some g (children t q)
    some_child = some_as (children t q) agree

    pub first_child : first f (children t q) ≡ first g (children t q)
    first_child = first_as (children t q) agree
