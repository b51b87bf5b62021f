-- A run that may start before all bounds decides whether some interval is admitted. Assumes nothing.
use Prim.Native.Nat.{ℕ, ◌+◌, ◌-◌, ◌≤◌, ◌<◌, max}
use native.Mathlib.Omega.{arith}
use native.Mathlib.Decide.{dec_le}
use mathlib.Core.Path.{◌≡◌, sym, ap, subst, ◌∙◌}
use mathlib.Core.Bool.{true, false}
use mathlib.Core.List.{List}
use Rattle.rules.specs.declared.Refusal.TheVariants.{NoInterval, NormalRange}
use Rattle.time.specs.Annotations.{base, annotation_of, annotation_in_range, NotSooner, NotLater, NotLonger, Admits}
use Rattle.time.specs.Normal.{normal, Possible, numbers_of, Normalised, value_range, no_interval, normal_range, done}
use Rattle.time.specs.Search.{low, high, window_to, far, window, finish, soonest, starts_from, NearBound, NearAll}
use Rattle.time.specs.declared.Annotation.{Annotation}
use Rattle.time.specs.declared.Window.{Window}
use Rattle.time.proofs.Tests.{clash}
use Rattle.time.proofs.Ranges.{near_all}
use Rattle.time.proofs.Windows.{
  Within,
  admitted_sound,
  admitted_complete,
  from_window,
  to_window,
  soonest_within,
  same_soonest,
  soonest_small,
  finish_small,
  nearer,
}
use Rattle.std.specs.Prelude.{Err, Option}
use Rattle.rules.specs.Answers.{Done}

-- an interval that starts before place 0 of the line that has the reference point at base: no bound holds it back, so one starts at 0
module _ (o r t1 t2 k : ℕ) (under : t1 + (base + base) < r + o) (small : k ≤ 5000000000) (long : t1 + k ≤ t2 + base) (low' : base ≤ k)
  where
    abbrev u2 : Option ℕ → ℕ
    u2 efs = max (low efs base) (0 + k - base)

    no_ess : (x : Option ℕ) → NearBound x → NotSooner o r x t1 → low x base ≤ 0
    no_ess x h p = grind arith

    under_lfs : (x y : Option ℕ) → NearBound x → NearBound y → NotLater o r x t2 → NotSooner o r y t2 → u2 y ≤ high far x base
    under_lfs x y hx hy p q = grind arith

    under_short :
        (d y : Option ℕ) → NearBound d → NearBound y → NotLonger d t1 t2 → NotSooner o r y t2 → u2 y + base ≤ 0 + high far d base
    under_short d y hd hy p q = grind arith

-- any other, moved to that line
module _ (o r : ℕ) (near : r ≤ 5000000000) where
  moved : ℕ → ℕ
  moved t = t + (base + base) - (r + o)

  moved_low : (x : Option ℕ) (t : ℕ) → r + o ≤ t + (base + base) → NotSooner o r x t → NotSooner (base + base - r) r x (moved t)
  unfolding moved
  moved_low x t l p = grind arith

  moved_high : (x : Option ℕ) (t : ℕ) → r + o ≤ t + (base + base) → NotLater o r x t → NotLater (base + base - r) r x (moved t)
  unfolding moved
  moved_high x t l p = grind arith

  moved_short : (x : Option ℕ) (t1 t2 : ℕ) → r + o ≤ t1 + (base + base) → t1 ≤ t2 → NotLonger x t1 t2 → NotLonger x (moved t1) (moved t2)
  unfolding moved
  moved_short x t1 t2 l u p = grind arith

module _ (a : Annotation) (n : NearAll a) where
  abbrev r : ℕ
  r = a.reference

  abbrev w : Window
  w = window a base

  abbrev s : ℕ
  s = soonest w 0

  pub possible_sound : starts_from w 0 ≡ true → Possible a
  unfolding starts_from
  possible_sound e =
      record {
        origin = base + base - r;
        t1 = s;
        t2 = finish w s;
        admits =
            from_window a n (base + base - r) base (omega (arith, n.reference)) (omega arith) far s (finish w s)
            (admitted_sound w s (finish w s) e);
      }

  -- an interval in a window that is wide enough
  from_wide : (beyond t1 t2 : ℕ) → far ≤ beyond → Within (window_to beyond a base) t1 t2 → starts_from w 0 ≡ true
  unfolding starts_from
  from_wide beyond t1 t2 out m =
      let room : base ≤ 5000000000 = omega arith in
      let found = soonest_within (window_to beyond a base) 0 t1 t2 (omega arith) m n.low in
      let here : Within (window_to beyond a base) s (finish w s) =
      subst (λ (u : ℕ). Within (window_to beyond a base) u (finish w u)) (same_soonest a n base beyond room out 0) found in
      let s1 = soonest_small a n base beyond room out 0 (omega arith) in
      let s2 = finish_small a n base beyond room out s s1 in
      admitted_complete w s (finish w s) (nearer a n base beyond room out s (finish w s) (omega arith) s2 here)

  moved_admits :
      (o t1 t2 : ℕ) → r + o ≤ t1 + (base + base) → Admits o a t1 t2
      → Admits (base + base - r) a (moved o r n.reference.1 t1) (moved o r n.reference.1 t2)
  unfolding moved
  moved_admits o t1 t2 l m =
      let room = n.reference.1 in
      let ordered : t1 ≤ t2 = m.ordered in
      let long : t1 + a.least ≤ t2 + base = m.long in
      record {
        ordered = omega arith;
        long = omega arith;
        short = moved_short o r room a.greatest t1 t2 l ordered m.short;
        ess = moved_low o r room a.ess t1 l m.ess;
        lss = moved_high o r room a.lss t1 l m.lss;
        efs = moved_low o r room a.efs t2 (omega arith) m.efs;
        lfs = moved_high o r room a.lfs t2 (omega arith) m.lfs;
      }

  pub possible_complete : (o t1 t2 : ℕ) → Admits o a t1 t2 → starts_from w 0 ≡ true
  possible_complete o t1 t2 m = go (dec_le (r + o) (t1 + (base + base)))
    where
      long : t1 + a.least ≤ t2 + base
      long = m.long

      go : Dec (r + o ≤ t1 + (base + base)) → starts_from w 0 ≡ true
      go (yes d) =
          let v1 = moved o r n.reference.1 t1 in
          let v2 = moved o r n.reference.1 t2 in
          from_wide (far + v1 + v2) v1 v2 (omega arith)
          (to_window a n (base + base - r) base (omega (arith, n.reference)) (omega arith) (far + v1 + v2) v1 v2
          (omega arith)
          (omega arith)
          (omega arith)
          (moved_admits o t1 t2 d m))
      go (no d) =
          let under : t1 + (base + base) < r + o = omega arith in
          from_wide far 0 (u2 o r t1 t2 a.least under n.least long n.low a.efs) (omega arith)
          (record {
            long = omega arith;
            short =
                under_short o r t1 t2 a.least under n.least long n.low a.greatest a.efs n.greatest n.efs m.short
                m.efs;
            ess = no_ess o r t1 t2 a.least under n.least long n.low a.ess n.ess m.ess;
            lss = omega arith;
            efs = omega arith;
            lfs = under_lfs o r t1 t2 a.least under n.least long n.low a.lfs a.efs n.lfs n.efs m.lfs m.efs;
          })

-- what normalising answers, of the annotation a that was handed in as l
module _ (l : List ℕ) (a : Annotation) (read : a ≡ annotation_of l) (ranged : annotation_in_range a ≡ true) where
  of_it : annotation_in_range (annotation_of l) ≡ true
  of_it = subst (λ (x : Annotation). annotation_in_range x ≡ true) read ranged

  pub normalised_none : starts_from (window a base) 0 ≡ false → Normalised l (Err NoInterval) l
  normalised_none fails = no_interval of_it (λ y. none (subst Possible (sym read) y))
    where
      none : Possible a → ⊥
      none y = clash (possible_complete a (near_all a ranged) y.origin y.t1 y.t2 y.admits) fails

  module _ (starts : starts_from (window a base) 0 ≡ true) where
    some : Possible (annotation_of l)
    some = subst Possible read (possible_sound a (near_all a ranged) starts)

    pub normalised_out : annotation_in_range (normal a) ≡ false → Normalised l (Err NormalRange) l
    normalised_out out = normal_range of_it some (subst (λ (x : Annotation). annotation_in_range (normal x) ≡ false) read out)

    pub normalised_done :
        {m : List ℕ} → annotation_in_range (normal a) ≡ true → m ≡ numbers_of (normal a) → Normalised l Done m
    normalised_done inside put =
        subst (λ (x : List ℕ). Normalised l Done x) (sym (put ∙ ap (λ (x : Annotation). numbers_of (normal x)) read))
        (done of_it some (subst (λ (x : Annotation). annotation_in_range (normal x) ≡ true) read inside))

-- what `normalise` of crate `pattern` stands on
pub ruleset normalising = (value_range, near_all, normalised_none, normalised_out, normalised_done)
