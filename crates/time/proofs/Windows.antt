-- The tests of a window say which intervals an annotation admits. Assumes nothing.
use Prim.Native.Nat.{ℕ, ◌+◌, ◌-◌, ◌≤◌, max}
use native.Mathlib.Omega.{arith}
use mathlib.Core.Path.{◌≡◌}
use mathlib.Core.Bool.{Bool, true, ◌&&◌}
use borrow.Author.Tests.{leb-true, le-leb}
use lib.Dec.{leb}
use Rattle.time.specs.Annotations.{base, NotSooner, NotLater, NotLonger, Admits}
use Rattle.time.specs.Search.{low, high, window_to, far, window, admitted, finish, soonest, NearBound, NearAll}
use Rattle.std.specs.Prelude.{Option}
use Rattle.time.specs.declared.Annotation.{Annotation}
use Rattle.time.specs.declared.Window.{Window}
use Rattle.time.proofs.Tests.{first, second}

-- the interval from t1 to t2 lies in a window
pub record Within (w : Window) (t1 t2 : ℕ) : Type 0 where
  pub long : t1 + w.least ≤ t2 + base
  pub short : t2 + base ≤ t1 + w.greatest
  pub ess : w.ess ≤ t1
  pub lss : t1 ≤ w.lss
  pub efs : w.efs ≤ t2
  pub lfs : t2 ≤ w.lfs

module _ (w : Window) (t1 t2 : ℕ) where
  abbrev c1 : Bool
  c1 = leb (t1 + w.least) (t2 + base)

  abbrev c2 : Bool
  c2 = c1 && leb (t2 + base) (t1 + w.greatest)

  abbrev c3 : Bool
  c3 = c2 && leb w.ess t1

  abbrev c4 : Bool
  c4 = c3 && leb t1 w.lss

  abbrev c5 : Bool
  c5 = c4 && leb w.efs t2

  pub admitted_sound : admitted w t1 t2 ≡ true → Within w t1 t2
  unfolding admitted
  admitted_sound e6 =
      let e5 = first c5 (leb t2 w.lfs) e6 in
      let e4 = first c4 (leb w.efs t2) e5 in
      let e3 = first c3 (leb t1 w.lss) e4 in
      let e2 = first c2 (leb w.ess t1) e3 in
      record {
        long = leb-true (t1 + w.least) (t2 + base) (first c1 (leb (t2 + base) (t1 + w.greatest)) e2);
        short = leb-true (t2 + base) (t1 + w.greatest) (second c1 (leb (t2 + base) (t1 + w.greatest)) e2);
        ess = leb-true w.ess t1 (second c2 (leb w.ess t1) e3);
        lss = leb-true t1 w.lss (second c3 (leb t1 w.lss) e4);
        efs = leb-true w.efs t2 (second c4 (leb w.efs t2) e5);
        lfs = leb-true t2 w.lfs (second c5 (leb t2 w.lfs) e6);
      }

  pub admitted_complete : Within w t1 t2 → admitted w t1 t2 ≡ true
  unfolding admitted
  admitted_complete m =
      rw (
        le-leb (t1 + w.least) (t2 + base) m.long,
        le-leb (t2 + base) (t1 + w.greatest) m.short,
        le-leb w.ess t1 m.ess,
        le-leb t1 w.lss m.lss,
        le-leb w.efs t2 m.efs,
        le-leb t2 w.lfs m.lfs,
      )

-- one bound, where the reference point r stands at the place p of a line that has minute 0 at origin
module _ (origin r p : ℕ) (placed : p + base ≡ r + origin) (room : 1000000000 ≤ p) where
  low_sound : (x : Option ℕ) (t : ℕ) → NearBound x → low x p ≤ t → NotSooner origin r x t
  low_sound x t h e = grind arith

  low_complete : (x : Option ℕ) (t : ℕ) → NearBound x → NotSooner origin r x t → low x p ≤ t
  low_complete x t h e = grind arith

  high_sound : (beyond : ℕ) (x : Option ℕ) (t : ℕ) → NearBound x → t ≤ high beyond x p → NotLater origin r x t
  high_sound beyond x t h e = grind arith

  high_complete : (beyond : ℕ) (x : Option ℕ) (t : ℕ) → NearBound x → t ≤ beyond → NotLater origin r x t → t ≤ high beyond x p
  high_complete beyond x t h l e = grind arith

short_sound : (beyond : ℕ) (x : Option ℕ) (t1 t2 : ℕ) → t2 + base ≤ t1 + high beyond x base → NotLonger x t1 t2
short_sound beyond x t1 t2 e = grind arith

short_complete :
    (beyond : ℕ) (x : Option ℕ) (t1 t2 : ℕ) → t2 + base ≤ t1 + beyond → NotLonger x t1 t2 → t2 + base ≤ t1 + high beyond x base
short_complete beyond x t1 t2 l e = grind arith

-- a whole annotation
module _ (a : Annotation) (n : NearAll a) (origin p : ℕ) (placed : p + base ≡ a.reference + origin) (room : 1000000000 ≤ p) where
  abbrev r : ℕ
  r = a.reference

  pub from_window : (beyond t1 t2 : ℕ) → Within (window_to beyond a p) t1 t2 → Admits origin a t1 t2
  from_window beyond t1 t2 m =
      let least : base ≤ a.least = n.low in
      let long : t1 + a.least ≤ t2 + base = m.long in
      record {
        ordered = omega arith;
        long = long;
        short = short_sound beyond a.greatest t1 t2 m.short;
        ess = low_sound origin r p placed room a.ess t1 n.ess m.ess;
        lss = high_sound origin r p placed room beyond a.lss t1 n.lss m.lss;
        efs = low_sound origin r p placed room a.efs t2 n.efs m.efs;
        lfs = high_sound origin r p placed room beyond a.lfs t2 n.lfs m.lfs;
      }

  pub to_window :
      (beyond t1 t2 : ℕ) → t1 ≤ beyond → t2 ≤ beyond → t2 + base ≤ t1 + beyond → Admits origin a t1 t2
      → Within (window_to beyond a p) t1 t2
  to_window beyond t1 t2 l1 l2 l m =
      record {
        long = m.long;
        short = short_complete beyond a.greatest t1 t2 l m.short;
        ess = low_complete origin r p placed room a.ess t1 n.ess m.ess;
        lss = high_complete origin r p placed room beyond a.lss t1 n.lss l1 m.lss;
        efs = low_complete origin r p placed room a.efs t2 n.efs m.efs;
        lfs = high_complete origin r p placed room beyond a.lfs t2 n.lfs l2 m.lfs;
      }

-- the soonest interval from k on: where some interval lies in the window, this one does
module _ (w : Window) (k t1 t2 : ℕ) (from : k ≤ t1) (m : Within w t1 t2) (least : base ≤ w.least) where
  abbrev u1 : ℕ
  u1 = soonest w k

  abbrev u2 : ℕ
  u2 = finish w u1

  reaches : w.efs + base ≤ u1 + w.greatest
  reaches = omega arith

  starts_by : u1 ≤ t1
  starts_by =
      let ess : w.ess ≤ t1 = m.ess in
      let efs : w.efs ≤ t2 = m.efs in
      let short : t2 + base ≤ t1 + w.greatest = m.short in
      omega arith

  pub soonest_within : Within w u1 u2
  soonest_within =
      let by = starts_by in
      let short : t2 + base ≤ t1 + w.greatest = m.short in
      let long : t1 + w.least ≤ t2 + base = m.long in
      let lss : t1 ≤ w.lss = m.lss in
      let efs : w.efs ≤ t2 = m.efs in
      let lfs : t2 ≤ w.lfs = m.lfs in
      record {
        long = long_enough u1;
        short = short_enough u1 reaches (omega arith);
        ess = omega arith;
        lss = omega arith;
        efs = late_enough u1;
        lfs = early_enough u1 (omega arith);
      }
    where
      long_enough : (u : ℕ) → u + w.least ≤ finish w u + base
      long_enough u = omega arith

      late_enough : (u : ℕ) → w.efs ≤ finish w u
      late_enough u = omega arith

      short_enough : (u : ℕ) → w.efs + base ≤ u + w.greatest → w.least ≤ w.greatest → finish w u + base ≤ u + w.greatest
      short_enough u e l = omega arith

      early_enough : (u : ℕ) → u + w.least ≤ t2 + base → finish w u ≤ w.lfs
      early_enough u e = let efs : w.efs ≤ t2 = m.efs in let lfs : t2 ≤ w.lfs = m.lfs in omega arith

-- an interval that starts at t1 and finishes when it is asked for, or as soon after as it may
pub finished_within :
    (w : Window) (t1 t2 asked : ℕ) → Within w t1 t2 → asked ≤ t2 → Within w t1 (max asked (finish w t1))
finished_within w t1 t2 asked m l =
    let long : t1 + w.least ≤ t2 + base = m.long in
    let short : t2 + base ≤ t1 + w.greatest = m.short in
    let efs : w.efs ≤ t2 = m.efs in
    let lfs : t2 ≤ w.lfs = m.lfs in
    record { long = omega arith; short = omega arith; ess = m.ess; lss = m.lss; efs = omega arith; lfs = omega arith }

-- how far an open bound lies off changes nothing for minutes before it
module _ (a : Annotation) (n : NearAll a) (p beyond : ℕ) (room : p ≤ 5000000000) (out : far ≤ beyond) where
  low_small : (x : Option ℕ) → NearBound x → low x p ≤ 6000000000
  low_small x h = grind arith

  difference : (x : Option ℕ) (e : ℕ) → e ≤ 6000000000 → e + base - high beyond x base ≡ e + base - high far x base
  difference x e l = grind arith

  pub same_soonest : (k : ℕ) → soonest (window_to beyond a p) k ≡ soonest (window a p) k
  same_soonest k = rw (difference a.greatest (low a.efs p) (low_small a.efs n.efs))

  pub soonest_small : (k : ℕ) → k ≤ 6000000000 → soonest (window a p) k ≤ 10000000000
  soonest_small k l =
      let ess = low_small a.ess n.ess in
      let efs = low_small a.efs n.efs in
      omega arith

  pub finish_small : (t : ℕ) → t ≤ 10000000000 → finish (window a p) t ≤ 11000000000
  finish_small t l =
      let efs = low_small a.efs n.efs in
      let least = n.least in
      omega arith

  pub first_small : (b : ℕ) → b ≤ 6000000000 → max (low a.ess p) b ≤ 6000000000
  first_small b l =
      let ess = low_small a.ess n.ess in
      omega arith

  high_near : (x : Option ℕ) (t : ℕ) → t ≤ far → t ≤ high beyond x p → t ≤ high far x p
  high_near x t l e = grind arith

  short_near : (x : Option ℕ) (t1 t2 : ℕ) → t2 + base ≤ t1 + far → t2 + base ≤ t1 + high beyond x base → t2 + base ≤ t1 + high far x base
  short_near x t1 t2 l e = grind arith

  pub nearer : (t1 t2 : ℕ) → t1 ≤ 11000000000 → t2 ≤ 11000000000 → Within (window_to beyond a p) t1 t2 → Within (window a p) t1 t2
  nearer t1 t2 l1 l2 m =
      record {
        long = m.long;
        short = short_near a.greatest t1 t2 (omega arith) m.short;
        ess = m.ess;
        lss = high_near a.lss t1 (omega arith) m.lss;
        efs = m.efs;
        lfs = high_near a.lfs t2 (omega arith) m.lfs;
      }
