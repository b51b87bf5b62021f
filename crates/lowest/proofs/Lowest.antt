-- What the answer of a search says of `least`. Assumes nothing.
use Prim.Native.Nat.{ℕ, zero, suc, ◌-◌, ◌≤◌, ◌<◌}
use native.Mathlib.Omega.{arith}
use native.Mathlib.Nat.{sub-zero}
use native.Mathlib.Numerals.{add-one}
use mathlib.Core.Path.{◌≡◌, refl, sym, ◌∙◌, ap}
use mathlib.Core.Bool.{Bool, true, false, cond, ◌||◌, or-true}
use lib.Dec.{ltb}
use borrow.Author.Tests.{ltb-true, ltb-false}
use Rattle.std.specs.Prelude.{Option, Some, None}
use Rattle.rules.specs.Lists.{least_from, least}
use Rattle.rules.proofs.Least.{least_here, least_more, least_end}
use Rattle.lowest.specs.Lowest.{Lowest}

-- a search that starts at 0 goes on at r, where nothing below r passes
skip : (f : ℕ → Bool) (n r : ℕ) → r ≤ n → ((k : ℕ) → k < r → f k ≡ false) → least f n ≡ least_from f r (n - r)
skip f n zero l h = rw sub-zero refl
skip f n (suc r) l h =
    skip f n r (omega arith) (λ k i. h k (omega arith))
    ∙ least_more f r n (omega arith) (h r (omega arith))
    ∙ ap (λ (i : ℕ). least_from f i (n - i)) (add-one r)

-- it is the least
pub lowest_is : (f : ℕ → Bool) (n : ℕ) (r : Option ℕ) → Lowest f n r → least f n ≡ r
lowest_is f n None none = skip f n n (omega arith) none ∙ least_end f n n (omega arith)
lowest_is f n (Some r) (l, found, before) = skip f n r (omega arith) before ∙ least_here f r n l found

-- so there is one answer to a search
pub lowest_once : (f : ℕ → Bool) (n : ℕ) (r r' : Option ℕ) → Lowest f n r → Lowest f n r' → r ≡ r'
lowest_once f n r r' a b = sym (lowest_is f n r a) ∙ lowest_is f n r' b

-- a search by a test that says the same of every number below n
pub lowest_within :
    (f g : ℕ → Bool) (n : ℕ) (r : Option ℕ) → ((k : ℕ) → k < n → f k ≡ g k) → Lowest f n r → Lowest g n r
lowest_within f g n None same none = λ k l. sym (same k l) ∙ none k l
lowest_within f g n (Some r) same (l, found, before) =
    (l, sym (same r l) ∙ found, λ k m. sym (same k (omega (arith, l))) ∙ before k m)

-- a search by a test that says the same of every number
pub lowest_as : (f g : ℕ → Bool) (n : ℕ) (r : Option ℕ) → ((k : ℕ) → f k ≡ g k) → Lowest f n r → Lowest g n r
lowest_as f g n r same found = lowest_within f g n r (λ k l. same k) found

-- the lower of two answers
abbrev pub lower : Option ℕ → Option ℕ → Option ℕ
lower None b = b
lower (Some a) None = Some a
lower (Some a) (Some b) = Some (cond (ltb a b) a b)

-- a search for either of two is a search for each: the lower one is the answer
pub lowest_either :
    (f g : ℕ → Bool) (n : ℕ) (a b : Option ℕ) → Lowest f n a → Lowest g n b → Lowest (λ k. f k || g k) n (lower a b)
lowest_either f g n None None no_f no_g = λ k l. rw (no_f k l, no_g k l) refl
lowest_either f g n None (Some b) no_f (l, found, before) =
    (l, rw (no_f b l, found) refl, λ k m. rw (no_f k (omega (arith, l)), before k m) refl)
lowest_either f g n (Some a) None (l, found, before) no_g =
    (l, rw found refl, λ k m. rw (before k m, no_g k (omega (arith, l))) refl)
lowest_either f g n (Some a) (Some b) (l, found, before) (l', found', before') = go (ltb a b) refl
  where
    neither : (k : ℕ) → k < a → k < b → (f k || g k) ≡ false
    neither k i j = rw (before k i, before' k j) refl

    go : (less : Bool) → ltb a b ≡ less → Lowest (λ k. f k || g k) n (Some (cond less a b))
    go true e =
        let below = ltb-true a b e in
        (l, rw found refl, λ k m. neither k m (omega arith))
    go false e =
        let above = ltb-false a b e in
        (l', rw found' (or-true (f b)), λ k m. neither k (omega arith) m)
