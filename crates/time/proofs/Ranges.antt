-- What the tests of ranges tell. Assumes nothing.
use Prim.Native.Nat.{ℕ}
use mathlib.Core.Path.{◌≡◌}
use mathlib.Core.Bool.{Bool, true, ◌&&◌}
use borrow.Author.Tests.{leb-true}
use lib.Dec.{leb}
use Rattle.time.specs.Annotations.{base, in_range, bound_in_range, annotation_in_range}
use Rattle.time.specs.Search.{Near, NearBound, NearAll}
use Rattle.std.specs.Prelude.{Option, None, Some}
use Rattle.time.specs.declared.Annotation.{Annotation}
use Rattle.time.proofs.Tests.{first, second}

pub near : (v : ℕ) → in_range v ≡ true → Near v
near v e =
    let low = leb 3000000000 v in
    let high = leb v 5000000000 in
    (leb-true 3000000000 v (first low high e), leb-true v 5000000000 (second low high e))

near_bound : (x : Option ℕ) → bound_in_range x ≡ true → NearBound x
near_bound None e = tt
near_bound (Some v) e = near v e

module _ (a : Annotation) where
  abbrev c1 : Bool
  c1 = bound_in_range a.ess

  abbrev c2 : Bool
  c2 = c1 && bound_in_range a.lss

  abbrev c3 : Bool
  c3 = c2 && bound_in_range a.efs

  abbrev c4 : Bool
  c4 = c3 && bound_in_range a.lfs

  abbrev c5 : Bool
  c5 = c4 && in_range a.least

  abbrev c6 : Bool
  c6 = c5 && leb base a.least

  abbrev c7 : Bool
  c7 = c6 && bound_in_range a.greatest

  pub near_all : annotation_in_range a ≡ true → NearAll a
  unfolding annotation_in_range
  near_all e8 =
      let e7 = first c7 (in_range a.reference) e8 in
      let e6 = first c6 (bound_in_range a.greatest) e7 in
      let e5 = first c5 (leb base a.least) e6 in
      let e4 = first c4 (in_range a.least) e5 in
      let e3 = first c3 (bound_in_range a.lfs) e4 in
      let e2 = first c2 (bound_in_range a.efs) e3 in
      record {
        ess = near_bound a.ess (first c1 (bound_in_range a.lss) e2);
        lss = near_bound a.lss (second c1 (bound_in_range a.lss) e2);
        efs = near_bound a.efs (second c2 (bound_in_range a.efs) e3);
        lfs = near_bound a.lfs (second c3 (bound_in_range a.lfs) e4);
        low = leb-true base a.least (second c5 (leb base a.least) e6);
        least = (near a.least (second c4 (in_range a.least) e5)).1;
        greatest = near_bound a.greatest (second c6 (bound_in_range a.greatest) e7);
        reference = near a.reference (second c7 (in_range a.reference) e8);
      }
