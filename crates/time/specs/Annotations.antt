-- Documents 001 and 003: what a time annotation says, and the intervals that it admits. Assumes nothing.
--
-- Minutes are counted from 4,000,000,000 minutes before minute 0, so that all that are handed in are numbers from 0: minute z is the number
-- z + base, and so is a shift or a duration of z minutes. Nothing is subtracted: that the reference point r plus a shift v is not after t,
-- (r - base) + (v - base) ≤ t - base, is said as r + v + base ≤ t + (base + base).
use Rattle.std.specs.Prelude.{ℕ, ◌+◌, ◌%◌, ◌^◌, ◌≤◌, ◌≡◌, Bool, true, cond, ◌&&◌, List, get_or, eqb, leb, Option, None, Some}
use Rattle.time.specs.declared.Annotation.{Annotation}

abbrev pub base : ℕ
base = 4000000000

-- a number comes in two's complement of 64 bits; the least of all, which is out of range, stands for an open bound, which is None here
abbrev pub counted : ℕ → ℕ
counted x = (x + base) % 2 ^ 64

abbrev pub none : ℕ
none = 2 ^ 63

abbrev pub bound_of : ℕ → Option ℕ
bound_of x = cond (eqb x none) None (Some (counted x))

-- seven numbers: earliest and latest start, earliest and latest finish, least and greatest duration, reference point; a contract hands in
-- exactly seven
abbrev pub annotation_of : List ℕ → Annotation
annotation_of l =
    record {
      ess = bound_of (get_or l 0 0);
      lss = bound_of (get_or l 1 0);
      efs = bound_of (get_or l 2 0);
      lfs = bound_of (get_or l 3 0);
      least = counted (get_or l 4 0);
      greatest = bound_of (get_or l 5 0);
      reference = counted (get_or l 6 0);
    }

-- whole minutes from -1,000,000,000 to 1,000,000,000
abbrev pub in_range : ℕ → Bool
in_range v = leb 3000000000 v && leb v 5000000000

abbrev pub bound_in_range : Option ℕ → Bool
bound_in_range None = true
bound_in_range (Some v) = in_range v

-- of an annotation all seven, and the least duration is 0 or more
unfoldable pub annotation_in_range : Annotation → Bool
annotation_in_range a =
    bound_in_range a.ess
    && bound_in_range a.lss
    && bound_in_range a.efs
    && bound_in_range a.lfs
    && in_range a.least
    && leb base a.least
    && bound_in_range a.greatest
    && in_range a.reference

-- A minute t against the reference point r plus a shift. An interval is not held to the range, nor to any first minute: `origin` is the
-- place of minute 0 on the line of minutes that t is counted on, and a line with its origin far enough out shows any interval. Where only
-- minutes that a history speaks of matter it is `base`. An open bound asks nothing, and excuses nothing.
abbrev pub NotSooner : ℕ → ℕ → Option ℕ → ℕ → Type 0
NotSooner origin r None t = Unit
NotSooner origin r (Some v) t = r + v + origin ≤ t + (base + base)

abbrev pub NotLater : ℕ → ℕ → Option ℕ → ℕ → Type 0
NotLater origin r None t = Unit
NotLater origin r (Some v) t = t + (base + base) ≤ r + v + origin

abbrev pub Exactly : ℕ → ℕ → Option ℕ → ℕ → Type 0
Exactly origin r None t = ⊥
Exactly origin r (Some v) t = r + v + origin ≡ t + (base + base)

-- the duration of the interval from t1 to t2 is their difference
abbrev pub NotLonger : Option ℕ → ℕ → ℕ → Type 0
NotLonger None t1 t2 = Unit
NotLonger (Some v) t1 t2 = t2 + base ≤ t1 + v

-- the interval from t1 to t2 (001: t1 ≤ t2), and of 003, section 13.2, the first six criteria for it, in their order
pub record Admits (origin : ℕ) (a : Annotation) (t1 t2 : ℕ) : Type 0 where
  pub ordered : t1 ≤ t2
  pub long : t1 + a.least ≤ t2 + base
  pub short : NotLonger a.greatest t1 t2
  pub ess : NotSooner origin a.reference a.ess t1
  pub lss : NotLater origin a.reference a.lss t1
  pub efs : NotSooner origin a.reference a.efs t2
  pub lfs : NotLater origin a.reference a.lfs t2
