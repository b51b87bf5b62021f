-- Of a run of true minutes that is over, one interval decides whether some interval in it satisfies. Assumes nothing.
use Prim.Native.Nat.{ℕ, ◌+◌, ◌-◌, ◌≤◌, ◌<◌, max, min}
use native.Mathlib.Omega.{arith}
use native.Mathlib.Decide.{ℕ_discrete, dec_lt}
use mathlib.Core.Path.{◌≡◌, refl, ◌∙◌}
use mathlib.Core.Logic.{◌⊎◌, inl, inr}
use mathlib.Core.Bool.{Bool, true, false}
use borrow.Author.Tests.{leb-true, leb-false}
use lib.Dec.{leb}
use Rattle.time.specs.Annotations.{base, Exactly}
use Rattle.time.specs.Patterns.{Satisfies}
use Rattle.time.specs.Search.{low, high, far, window, admitted, first_of, last_of, Near, NearBound, NearAll}
use Rattle.std.specs.Prelude.{Option, None, Some}
use Rattle.time.specs.declared.Annotation.{Annotation}
use Rattle.time.proofs.Tests.{clash}
use Rattle.time.proofs.Windows.{Within, admitted_sound, admitted_complete, from_window, to_window}

-- τ is true from b until the minute past, and neither before nor then
pub record Whole (τ : ℕ → Bool) (b past : ℕ) : Type 0 where
  pub some : b < past
  pub inside : (m : ℕ) → b ≤ m → m < past → τ m ≡ true
  pub before : (m : ℕ) → m + 1 ≡ b → τ m ≡ false
  pub after : τ past ≡ false

-- where an interval of a run starts and finishes: at the run's end or at the bound
module _ (r : ℕ) (near : Near r) where
  pub start_flank : (x : Option ℕ) (b : ℕ) → NearBound x → (max (low x r) b ≡ b) ⊎ Exactly base r x (max (low x r) b)
  start_flank None b h = inl (omega arith)
  start_flank (Some v) b h = go (leb (r + v - base) b) refl
    where
      go : (y : Bool) → leb (r + v - base) b ≡ y → (max (r + v - base) b ≡ b) ⊎ (r + v + base ≡ max (r + v - base) b + (base + base))
      go true e = inl (omega (arith, leb-true))
      go false e = inr (omega (arith, leb-false))

  pub start_is : (x : Option ℕ) (b t : ℕ) → NearBound x → b ≤ t → low x r ≤ t → (b ≡ t) ⊎ Exactly base r x t → max (low x r) b ≡ t
  start_is x b t h l n q = grind arith

  finish_flank : (x : Option ℕ) (e : ℕ) → NearBound x → e ≤ far → (min (high far x r) e ≡ e) ⊎ Exactly base r x (min (high far x r) e)
  finish_flank None e h l = inl (omega arith)
  finish_flank (Some v) e h l = go (leb e (r + v - base)) refl
    where
      go : (y : Bool) → leb e (r + v - base) ≡ y → (min (r + v - base) e ≡ e) ⊎ (r + v + base ≡ min (r + v - base) e + (base + base))
      go true q = inl (omega (arith, leb-true))
      go false q = inr (omega (arith, leb-false))

  finish_is : (x : Option ℕ) (e t : ℕ) → NearBound x → t ≤ e → t ≤ high far x r → (t ≡ e) ⊎ Exactly base r x t → min (high far x r) e ≡ t
  finish_is x e t h l n q = grind arith

module _ (a : Annotation) (n : NearAll a) (τ : ℕ → Bool) where
  abbrev r : ℕ
  r = a.reference

  -- an interval that starts in a run from b starts at b or at the bound; what the continuation proofs ask too
  pub started_at :
      (b t1 t2 : ℕ) → ((m : ℕ) → b ≤ m → m < t1 → τ m ≡ true) → Satisfies a τ t1 t2 → b ≤ t1 → (b ≡ t1) ⊎ Exactly base r a.ess t1
  started_at b t1 t2 inside y l = go y.starts (ℕ_discrete b t1)
    where
      go : ((m : ℕ) → m + 1 ≡ t1 → τ m ≡ false) ⊎ Exactly base r a.ess t1 → Dec (b ≡ t1) → (b ≡ t1) ⊎ Exactly base r a.ess t1
      go (inr x) d = inr x
      go (inl x) (yes d) = inl d
      go (inl x) (no d) = clash (inside (t1 - 1) (omega arith) (omega arith)) (x (t1 - 1) (omega arith))

  module _ (b past : ℕ) (run : Whole τ b past) (small : past + base ≤ far) where
    abbrev s : ℕ
    s = first_of (window a r) b

    abbrev f : ℕ
    f = last_of (window a r) past

    -- the interval that the code tries satisfies where it is admitted
    pub tried : admitted (window a r) s f ≡ true → Satisfies a τ s f
    tried e =
        let begun : b < past = run.some in
        record {
          holds = λ m l u. run.inside m (omega arith) (omega arith);
          admits = from_window a n base r refl (omega (arith, n.reference)) far s f (admitted_sound (window a r) s f e);
          starts = started (start_flank r n.reference a.ess b n.ess);
          ends = ended (finish_flank r n.reference a.lfs (past - 1) n.lfs (omega arith));
        }
      where
        started : (s ≡ b) ⊎ Exactly base r a.ess s → ((m : ℕ) → m + 1 ≡ s → τ m ≡ false) ⊎ Exactly base r a.ess s
        started (inl q) = inl (λ m p. run.before m (p ∙ q))
        started (inr q) = inr q

        ended : (f ≡ past - 1) ⊎ Exactly base r a.lfs f → (τ (f + 1) ≡ false) ⊎ Exactly base r a.lfs f
        ended q = grind arith

    -- an interval that satisfies and starts in the run
    module _ (t1 t2 : ℕ) (y : Satisfies a τ t1 t2) (l : b ≤ t1) (u : t1 < past) where
      lies : t2 < past
      lies = go (dec_lt t2 past)
        where
          go : Dec (t2 < past) → t2 < past
          go (yes d) = d
          go (no d) = clash (y.holds past (omega arith) (omega arith)) run.after

      ended_at : (t2 ≡ past - 1) ⊎ Exactly base r a.lfs t2
      ended_at = go y.ends (ℕ_discrete t2 (past - 1))
        where
          go : (τ (t2 + 1) ≡ false) ⊎ Exactly base r a.lfs t2 → Dec (t2 ≡ past - 1) → (t2 ≡ past - 1) ⊎ Exactly base r a.lfs t2
          go (inr x) d = inr x
          go (inl x) (yes d) = inl d
          go (inl x) (no d) =
              let o : t1 ≤ t2 = y.admits.ordered in
              let v : t2 < past = lies in
              clash (run.inside (t2 + 1) (omega arith) (omega arith)) x

      within : Within (window a r) t1 t2
      within =
          let o : t1 ≤ t2 = y.admits.ordered in
          let v : t2 < past = lies in
          to_window a n base r refl (omega (arith, n.reference)) far t1 t2 (omega arith) (omega arith) (omega arith) y.admits

      -- is the one that the code tries,
      pub is_first : s ≡ t1
      is_first =
          start_is r n.reference a.ess b t1 n.ess l within.ess (started_at b t1 t2 (λ m p q. run.inside m p (omega arith)) y l)

      is_last : f ≡ t2
      is_last =
          let v : t2 < past = lies in
          finish_is r n.reference a.lfs (past - 1) t2 n.lfs (omega arith) within.lfs ended_at

      -- and is admitted
      pub is_tried : admitted (window a r) s f ≡ true
      is_tried = rw (is_first, is_last) (admitted_complete (window a r) t1 t2 within)
