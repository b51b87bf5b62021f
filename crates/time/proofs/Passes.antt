-- The pass over the samples keeps what it must: the earliest interval that satisfies, or the run that goes on. Assumes nothing.
use Prim.Native.Nat.{ℕ, zero, suc, ◌+◌, ◌≤◌, ◌<◌}
use native.Mathlib.Omega.{arith}
use native.Mathlib.Decide.{ℕ_discrete, dec_lt}
use mathlib.Core.Path.{◌≡◌, refl, sym, ap}
use mathlib.Core.Bool.{Bool, true, false}
use mathlib.Core.List.{List}
use Rattle.time.specs.Annotations.{base}
use Rattle.time.specs.Patterns.{minute_at, truth_at, Satisfies}
use Rattle.time.specs.Search.{far, window, admitted, first_of, last_of, found_if, over, next, is_found, pass_to, NearAll}
use Rattle.time.specs.declared.Annotation.{Annotation}
use Rattle.time.specs.declared.Window.{Window}
use Rattle.time.specs.declared.Pass.{Pass}
use Rattle.time.specs.declared.Pass.TheVariants.{Found, Off, Since}
use Rattle.time.proofs.Tests.{clash}
use Rattle.time.proofs.Runs.{Whole, tried, is_first, is_tried}

-- the interval from t1 to t2 satisfies, and none that starts earlier does
pub record Earliest (a : Annotation) (τ : ℕ → Bool) (t1 t2 : ℕ) : Type 0 where
  pub satisfies : Satisfies a τ t1 t2
  pub least : (u1 u2 : ℕ) → Satisfies a τ u1 u2 → t1 ≤ u1

-- the minute before e is not true, and no interval that starts before e satisfies
pub record Quiet (a : Annotation) (τ : ℕ → Bool) (e : ℕ) : Type 0 where
  pub ended : (m : ℕ) → m + 1 ≡ e → τ m ≡ false
  pub none : (t1 t2 : ℕ) → Satisfies a τ t1 t2 → e ≤ t1

-- a run goes on from b to e at least, and no interval that starts before b satisfies
pub record Going (a : Annotation) (τ : ℕ → Bool) (b e : ℕ) : Type 0 where
  pub some : b < e
  pub inside : (m : ℕ) → b ≤ m → m < e → τ m ≡ true
  pub before : (m : ℕ) → m + 1 ≡ b → τ m ≡ false
  pub none : (t1 t2 : ℕ) → Satisfies a τ t1 t2 → b ≤ t1

-- what a pass up to the minute e has found
abbrev pub Passed : Annotation → (ℕ → Bool) → ℕ → Pass → Type 0
Passed a τ e (Found t1 t2) = Earliest a τ t1 t2
Passed a τ e Off = Quiet a τ e
Passed a τ e (Since b) = Going a τ b e

-- what is found stays found
module _ (w : Window) (h : List ℕ) (k : ℕ) where
  kept : (pass : Pass) (t : ℕ) (v : Bool) → is_found pass ≡ true → next w pass t v ≡ pass
  kept pass t v e = grind arith

  pub found_stays : (n : ℕ) → k ≤ n → is_found (pass_to w h k) ≡ true → pass_to w h n ≡ pass_to w h k
  unfolding pass_to
  found_stays zero l e =
      let z : k ≡ 0 = omega arith in
      ap (pass_to w h) (sym z)
  found_stays (suc n) l e = go (ℕ_discrete k (suc n)) (found_stays n)
    where
      go : Dec (k ≡ suc n) → (k ≤ n → is_found (pass_to w h k) ≡ true → pass_to w h n ≡ pass_to w h k) → pass_to w h (suc n) ≡ pass_to w h k
      go (yes d) before = ap (pass_to w h) (sym d)
      go (no d) before = rw (before (omega arith) e) (kept (pass_to w h k) (minute_at h n) (truth_at h n) e)

module _ (a : Annotation) (n : NearAll a) (τ : ℕ → Bool) where
  -- an interval that starts at e or later starts at e' or later, where nothing is true between
  later : (e e' : ℕ) → ((m : ℕ) → e ≤ m → m < e' → τ m ≡ false) → (t1 t2 : ℕ) → Satisfies a τ t1 t2 → e ≤ t1 → e' ≤ t1
  later e e' no_one t1 t2 y l = go (dec_lt t1 e')
    where
      go : Dec (t1 < e') → e' ≤ t1
      go (no d) = omega arith
      go (yes d) = clash (y.holds t1 (omega arith) y.admits.ordered) (no_one t1 l d)

  -- before the first sample
  pub nothing_yet : (e : ℕ) → ((m : ℕ) → m < e → τ m ≡ false) → Quiet a τ e
  nothing_yet e no_one =
      record {
        ended = λ m q. no_one m (omega arith);
        none = λ t1 t2 y. later 0 e (λ m p q. no_one m q) t1 t2 y (omega arith);
      }

  -- what holds from e until e' makes of a pass up to e
  module _ (e e' : ℕ) (up : e < e') (small : e + base ≤ far) where
    abbrev w : Window
    w = window a a.reference

    on : (pass : Pass) → Passed a τ e pass → ((m : ℕ) → e ≤ m → m < e' → τ m ≡ true) → Passed a τ e' (next w pass e true)
    on (Found t1 t2) st t = st
    on Off st t = record { some = up; inside = t; before = st.ended; none = st.none }
    on (Since b) st t =
        let some : b < e = st.some in
        record { some = omega arith; inside = inside; before = st.before; none = st.none }
      where
        inside : (m : ℕ) → b ≤ m → m < e' → τ m ≡ true
        inside m l u = go (dec_lt m e)
          where
            go : Dec (m < e) → τ m ≡ true
            go (yes d) = st.inside m l d
            go (no d) = t m (omega arith) u

    -- nothing is true from e until e'
    module _ (t : (m : ℕ) → e ≤ m → m < e' → τ m ≡ false) where
      -- a run is over
      module _ (b : ℕ) (st : Going a τ b e) where
        abbrev s : ℕ
        s = first_of w b

        abbrev f : ℕ
        f = last_of w e

        run : Whole τ b e
        run = record { some = st.some; inside = st.inside; before = st.before; after = t e (omega arith) up }

        -- an interval of this run is the one that is tried, and any other starts behind it
        earliest : admitted w s f ≡ true → (u1 u2 : ℕ) → Satisfies a τ u1 u2 → s ≤ u1
        earliest q u1 u2 y = go (dec_lt u1 e)
          where
            go : Dec (u1 < e) → s ≤ u1
            go (yes d) =
                let same : s ≡ u1 = is_first a n τ b e run small u1 u2 y (st.none u1 u2 y) d in
                omega arith
            go (no d) =
                let ordered : s ≤ f = (tried a n τ b e run small q).admits.ordered in
                let some : b < e = st.some in
                omega arith

        none_behind : admitted w s f ≡ false → (t1 t2 : ℕ) → Satisfies a τ t1 t2 → e ≤ t1
        none_behind q t1 t2 y = go (dec_lt t1 e)
          where
            go : Dec (t1 < e) → e ≤ t1
            go (no d) = omega arith
            go (yes d) = clash (is_tried a n τ b e run small t1 t2 y (st.none t1 t2 y) d) q

        ended : (v : Bool) → admitted w s f ≡ v → Passed a τ e' (found_if v s f)
        ended true q = record { satisfies = tried a n τ b e run small q; least = earliest q }
        ended false q =
            record {
              ended = λ m p. t m (omega arith) (omega arith);
              none = λ t1 t2 y. later e e' t t1 t2 y (none_behind q t1 t2 y);
            }

      off : (pass : Pass) → Passed a τ e pass → Passed a τ e' (next w pass e false)
      unfolding over
      off (Found t1 t2) st = st
      off Off st =
          record { ended = λ m q. t m (omega arith) (omega arith); none = λ t1 t2 y. later e e' t t1 t2 y (st.none t1 t2 y) }
      off (Since b) st = ended b st (admitted w (first_of w b) (last_of w e)) refl

    pub sampled : (pass : Pass) (v : Bool) → Passed a τ e pass → ((m : ℕ) → e ≤ m → m < e' → τ m ≡ v) → Passed a τ e' (next w pass e v)
    sampled pass true st t = on pass st t
    sampled pass false st t = off t pass st
