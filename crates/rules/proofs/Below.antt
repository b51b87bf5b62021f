-- Laws of `some_below`: a search through all numbers below n finds something if and only if there is something; and of `map_below` and
-- `join_below`: their values. Assumes nothing.
use Prim.Native.Nat.{ℕ, zero, suc, ◌+◌, ◌*◌, ◌≤◌, ◌<◌}
use native.Mathlib.Nat.{mul-suc, mul-le-mul_left}
use native.Mathlib.Decide.{ℕ_discrete}
use native.Mathlib.Omega.{arith}
use mathlib.Core.Path.{◌≡◌, refl, sym, ap, ◌∙◌}
use mathlib.Core.Bool.{Bool, true, false, ◌||◌, or-true, true≢false}
use mathlib.Core.List.{List, [], ◌∷◌, ◌++◌}
use lib.ListN.{get_or, length, length-append, get_or-append}
use lib.Seq.{get_or_at, get_or-append-add, ext_get_or}
use Rattle.rules.specs.Lists.{some_below, map_below, join_below}

module _ (f : ℕ → Bool) where
  pub none_below : (n : ℕ) → ((k : ℕ) → k < n → f k ≡ false) → some_below f n ≡ false
  unfolding some_below
  none_below zero none = refl
  none_below (suc n) none = simp (none_below n (λ k l. none k (omega arith)), none n (omega arith))

  pub some_below_lem : (n k : ℕ) → k < n → f k ≡ true → some_below f n ≡ true
  unfolding some_below
  some_below_lem zero k l is = absurd (omega arith)
  some_below_lem (suc n) k l is = go (ℕ_discrete k n) (λ m. some_below_lem n k m is)
    where
      go : Dec (k ≡ n) → (k < n → some_below f n ≡ true) → (some_below f n || f n) ≡ true
      go (yes e) below = rw (sym e) (rw is (or-true (some_below f k)))
      go (no e) below = simp (below (omega arith))

  pub none_true : (n : ℕ) → some_below f n ≡ false → (j : ℕ) → j < n → f j ≡ false
  unfolding some_below
  none_true zero h j l = absurd (omega arith)
  none_true (suc n) h j l = go (some_below f n) (f n) refl refl h (none_true n) (ℕ_discrete j n)
    where
      go :
          (x y : Bool) → some_below f n ≡ x → f n ≡ y → (x || y) ≡ false
          → (some_below f n ≡ false → (i : ℕ) → i < n → f i ≡ false) → Dec (j ≡ n) → f j ≡ false
      go true y ex ey h before d = absurd (true≢false h)
      go false true ex ey h before d = absurd (true≢false h)
      go false false ex ey h before (yes q) = rw q ey
      go false false ex ey h before (no q) = before ex j (omega arith)

-- a search for either of two is a search for each
pub some_either : (f g : ℕ → Bool) (n : ℕ) → some_below (λ k. f k || g k) n ≡ (some_below f n || some_below g n)
unfolding some_below
some_either f g zero = refl
some_either f g (suc n) = ap (λ (b : Bool). b || (f n || g n)) (some_either f g n) ∙ swap (some_below f n) (some_below g n) (f n) (g n)
  where
    swap : (a b c d : Bool) → ((a || b) || (c || d)) ≡ ((a || c) || (b || d))
    swap true b c d = refl
    swap false true true d = refl
    swap false true false d = refl
    swap false false true d = refl
    swap false false false d = refl

pub length_map_below : (f : ℕ → ℕ) (n : ℕ) → length (map_below f n) ≡ n
unfolding map_below
length_map_below f zero = refl
length_map_below f (suc n) = let h = length_map_below f n in simp length-append (omega arith)

pub at_map_below : (f : ℕ → ℕ) (n k : ℕ) → k < n → get_or (map_below f n) k 0 ≡ f k
unfolding map_below
at_map_below f zero k l = absurd (omega arith)
at_map_below f (suc n) k l = go (ℕ_discrete k n) (at_map_below f n k)
  where
    go : Dec (k ≡ n) → (k < n → get_or (map_below f n) k 0 ≡ f k) → get_or (map_below f n ++ (f n ∷ [])) k 0 ≡ f k
    go (yes e) before = rw e (get_or_at (map_below f n) (f n) [] 0 n (length_map_below f n))
    go (no e) before =
        let h : k < n = omega arith in
        get_or-append (map_below f n) (f n ∷ []) 0 k (rw (length_map_below f n) h) ∙ before h

pub same_map_below : (f g : ℕ → ℕ) (n : ℕ) → ((k : ℕ) → k < n → f k ≡ g k) → map_below f n ≡ map_below g n
unfolding map_below
same_map_below f g zero each = refl
same_map_below f g (suc n) each = rw (same_map_below f g n (λ k l. each k (omega arith)), each n (omega arith))

-- the bytes of a list, one after the other, are the list
pub map_below_all : (l : List ℕ) (n : ℕ) → length l ≡ n → map_below (λ k. get_or l k 0) n ≡ l
map_below_all l n e =
    let long = length_map_below (λ k. get_or l k 0) n in
    ext_get_or 0 (map_below (λ k. get_or l k 0) n) l (long ∙ sym e) (λ k h. at_map_below (λ k. get_or l k 0) n k (omega arith))

-- lists of one length, one behind the other
module _ (m : ℕ) (f : ℕ → List ℕ) (each : (k : ℕ) → length (f k) ≡ m) where
  pub length_join_below : (n : ℕ) → length (join_below f n) ≡ m * n
  unfolding join_below
  length_join_below zero = omega arith
  length_join_below (suc n) =
      length-append (join_below f n) (f n) ∙ omega (arith, length_join_below n, each n, mul-suc m n)

  pub at_join_below : (n p j : ℕ) → p < n → j < m → get_or (join_below f n) (m * p + j) 0 ≡ get_or (f p) j 0
  unfolding join_below
  at_join_below zero p j l h = absurd (omega arith)
  at_join_below (suc n) p j l h = go (ℕ_discrete p n) (λ b. at_join_below n p j b h)
    where
      go :
          Dec (p ≡ n) → (p < n → get_or (join_below f n) (m * p + j) 0 ≡ get_or (f p) j 0)
          → get_or (join_below f n ++ f n) (m * p + j) 0 ≡ get_or (f p) j 0
      go (yes e) before = rw (e, ← length_join_below n) (get_or-append-add (join_below f n) (f n) j 0)
      go (no e) before =
          let b : suc p ≤ n = omega arith in
          let inside : m * p + j < length (join_below f n) =
          omega (arith, length_join_below n, mul-suc m p, mul-le-mul_left m b) in
          get_or-append (join_below f n) (f n) 0 (m * p + j) inside ∙ before b

pub same_join_below : (f g : ℕ → List ℕ) (n : ℕ) → ((k : ℕ) → k < n → f k ≡ g k) → join_below f n ≡ join_below g n
unfolding join_below
same_join_below f g zero each = refl
same_join_below f g (suc n) each = rw (same_join_below f g n (λ k l. each k (omega arith)), each n (omega arith))
