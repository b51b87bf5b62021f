-- How the code decides: one pass over the samples, and of each run of true minutes the one interval that can satisfy. Nobody has to
-- believe this: proofs/ shows that it decides what `Patterns` and `Normal` define. Assumes nothing.
use Rattle.std.specs.Prelude.{ℕ, zero, suc, ◌+◌, ◌-◌, ◌*◌, ◌^◌, ◌≤◌, max, min, Bool, true, false, ◌&&◌, ◌||◌, List, length, leb, Option, None, Some}
use Rattle.time.specs.Annotations.{base}
use Rattle.time.specs.Patterns.{minute_at, truth_at}
use Rattle.time.specs.declared.Annotation.{Annotation}
use Rattle.time.specs.declared.Window.{Window}
use Rattle.time.specs.declared.Pass.{Pass}
use Rattle.time.specs.declared.Pass.TheVariants.{Found, Off, Since}
use Rattle.time.specs.declared.Judgement.{Judgement}
use Rattle.time.specs.declared.Judgement.TheVariants.{Satisfied, Satisfiable, Neither}

-- a bound with the reference point added; an open one lies at the minute `beyond`
abbrev pub placed : ℕ → Option ℕ → ℕ → ℕ
placed beyond None r = beyond
placed beyond (Some v) r = r + v - base

-- before all minutes, or beyond those that are asked about
abbrev pub low : Option ℕ → ℕ → ℕ
low x r = placed 0 x r

abbrev pub high : ℕ → Option ℕ → ℕ → ℕ
high beyond x r = placed beyond x r

abbrev pub window_to : ℕ → Annotation → ℕ → Window
window_to beyond a r =
    record {
      ess = low a.ess r;
      lss = high beyond a.lss r;
      efs = low a.efs r;
      lfs = high beyond a.lfs r;
      least = a.least;
      greatest = high beyond a.greatest base;
    }

abbrev pub far : ℕ
far = 20000000000

abbrev pub window : Annotation → ℕ → Window
window a r = window_to far a r

-- what a run leaves that is over
abbrev pub found_if : Bool → ℕ → ℕ → Pass
found_if true t1 t2 = Found t1 t2
found_if false t1 t2 = Off

abbrev pub is_found : Pass → Bool
is_found (Found t1 t2) = true
is_found Off = false
is_found (Since b) = false

-- the answer where nothing satisfies yet, and where a pass is over
abbrev pub not_yet : Bool → Judgement
not_yet true = Satisfiable
not_yet false = Neither

abbrev pub told : Pass → Bool → Judgement
told (Found t1 t2) can = Satisfied t1 t2
told Off can = not_yet can
told (Since b) can = not_yet can

module _ (w : Window) where
  unfoldable pub admitted : ℕ → ℕ → Bool
  admitted t1 t2 =
      leb (t1 + w.least) (t2 + base)
      && leb (t2 + base) (t1 + w.greatest)
      && leb w.ess t1
      && leb t1 w.lss
      && leb w.efs t2
      && leb t2 w.lfs

  -- of a run from b that is over at the minute past, the one interval that can satisfy
  abbrev pub first_of : ℕ → ℕ
  first_of b = max w.ess b

  abbrev pub last_of : ℕ → ℕ
  last_of past = min w.lfs (past - 1)

  unfoldable pub over : ℕ → ℕ → Pass
  over b past = found_if (admitted (first_of b) (last_of past)) (first_of b) (last_of past)

  -- a sample goes on with a run, starts one, or ends one
  abbrev pub next : Pass → ℕ → Bool → Pass
  next (Found t1 t2) t truth = Found t1 t2
  next Off t true = Since t
  next Off t false = Off
  next (Since b) t true = Since b
  next (Since b) t false = over b t

  unfoldable pub pass_to : List ℕ → ℕ → Pass
  pass_to h zero = Off
  pass_to h (suc k) = next (pass_to h k) (minute_at h k) (truth_at h k)

  -- the first finish of an interval that starts at t1
  abbrev pub finish : ℕ → ℕ
  finish t1 = max w.efs (t1 + w.least - base)

  -- a run from b that goes on at the minute of asking can satisfy
  unfoldable pub goes_on : ℕ → ℕ → Bool
  goes_on b asked = admitted (first_of b) (max asked (finish (first_of b)))

  -- a run that starts at the minute k or later can
  abbrev pub soonest : ℕ → ℕ
  soonest k = max k (max w.ess (w.efs + base - w.greatest))

  unfoldable pub starts_from : ℕ → Bool
  starts_from k = admitted (soonest k) (finish (soonest k))

  unfoldable pub can_be : Pass → ℕ → Bool
  can_be (Found t1 t2) asked = true
  can_be Off asked = starts_from (asked + 1)
  can_be (Since b) asked = goes_on b asked || starts_from (asked + 2)

  -- a run that goes on at the minute of asking is over after it
  unfoldable pub answer : Pass → ℕ → Judgement
  unfolding can_be over
  answer pass asked = told (next pass (asked + 1) false) (can_be pass asked)

unfoldable pub judgement_of : Annotation → List ℕ → ℕ → Judgement
unfolding pass_to answer
judgement_of a h asked = let w : Window = window a a.reference in answer w (pass_to w h (length h)) asked

-- room for sums: the bounds of a window, a minute that a sample can name, and one that is worked out from these
abbrev pub Small : ℕ → Type 0
Small v = v ≤ 10 ^ 12

abbrev pub Named : ℕ → Type 0
Named t = t ≤ 2 ^ 63

abbrev pub Worked : ℕ → Type 0
Worked t = t ≤ 2 ^ 63 + 4 * 10 ^ 12

pub record SmallWindow (w : Window) : Type 0 where
  pub ess : Small w.ess
  pub lss : Small w.lss
  pub efs : Small w.efs
  pub lfs : Small w.lfs
  pub least : Small w.least
  pub greatest : Small w.greatest

abbrev pub NamedPass : Pass → Type 0
NamedPass (Found t1 t2) = Unit
NamedPass Off = Unit
NamedPass (Since b) = Named b

-- annotations in range, for sums
abbrev pub Near : ℕ → Type 0
Near v = (3000000000 ≤ v) × (v ≤ 5000000000)

abbrev pub NearBound : Option ℕ → Type 0
NearBound None = Unit
NearBound (Some v) = Near v

pub record NearAll (a : Annotation) : Type 0 where
  pub ess : NearBound a.ess
  pub lss : NearBound a.lss
  pub efs : NearBound a.efs
  pub lfs : NearBound a.lfs
  pub low : base ≤ a.least
  pub least : a.least ≤ 5000000000
  pub greatest : NearBound a.greatest
  pub reference : Near a.reference
