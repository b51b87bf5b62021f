-- Laws of tests: conjunctions, and what every number below another passes. Assumes nothing.
use Prim.Native.Nat.{ℕ, zero, suc, ◌<◌}
use native.Mathlib.Omega.{arith}
use native.Mathlib.Decide.{ℕ_discrete}
use mathlib.Core.Path.{◌≡◌, refl, sym, ◌∙◌, ap}
use mathlib.Core.Bool.{Bool, true, false, not, ◌&&◌, false≢true}
use Rattle.std.proofs.Math.Bool.{and-true}
use Rattle.time.specs.Patterns.{every, some}

pub clash : {A : Type 0} {b : Bool} → b ≡ true → b ≡ false → A
clash p q = absurd (false≢true (sym q ∙ p))

pub first : (a b : Bool) → (a && b) ≡ true → a ≡ true
first a b e = grind arith

pub second : (a b : Bool) → (a && b) ≡ true → b ≡ true
second a b e = grind arith

pub both : (a b : Bool) → a ≡ true → b ≡ true → (a && b) ≡ true
both a b p q = rw (p, q)

pub every_at : (f : ℕ → Bool) (n : ℕ) → every f n ≡ true → (i : ℕ) → i < n → f i ≡ true
unfolding every
every_at f zero e i l = absurd (omega arith)
every_at f (suc k) e i l = go (ℕ_discrete i k) (every_at f k (first (every f k) (f k) e) i)
  where
    go : Dec (i ≡ k) → (i < k → f i ≡ true) → f i ≡ true
    go (yes q) before = rw q (second (every f k) (f k) e)
    go (no q) before = before (omega arith)

pub every_is : (f : ℕ → Bool) (n : ℕ) → ((i : ℕ) → i < n → f i ≡ true) → every f n ≡ true
unfolding every
every_is f zero h = refl
every_is f (suc k) h = both (every f k) (f k) (every_is f k (λ i l. h i (omega arith))) (h k (omega arith))

pub every_less : (f : ℕ → Bool) (k : ℕ) → f k ≡ true → every f (suc k) ≡ every f k
unfolding every
every_less f k e = rw e (and-true (every f k))

pub every_fails : (f : ℕ → Bool) (n i : ℕ) → i < n → f i ≡ false → every f n ≡ false
every_fails f n i l e = go (every f n) refl
  where
    go : (b : Bool) → every f n ≡ b → b ≡ false
    go true q = clash (every_at f n q i l) e
    go false q = refl

pub some_is : (f : ℕ → Bool) (n i : ℕ) → i < n → f i ≡ true → some f n ≡ true
some_is f n i l e = ap not (every_fails (λ j. not (f j)) n i l (ap not e))

pub some_fails : (f : ℕ → Bool) (n : ℕ) → ((i : ℕ) → i < n → f i ≡ false) → some f n ≡ false
some_fails f n h = ap not (every_is (λ j. not (f j)) n (λ i l. ap not (h i l)))
