-- Document 001's six formulas for the normal form of an annotation, and what normalising answers and leaves. Assumes nothing.
use Rattle.std.specs.Prelude.{ℕ, ◌+◌, ◌-◌, ◌%◌, ◌^◌, max, min, ◌≡◌, true, false, List, [], ◌∷◌, Err, Option, None, Some}
use Rattle.rules.specs.declared.Refusal.TheVariants.{ValueRange, NoInterval, NormalRange}
use Rattle.time.specs.Annotations.{base, none, annotation_of, annotation_in_range, Admits}
use Rattle.time.specs.declared.Annotation.{Annotation}
use Rattle.rules.specs.Answers.{Outcome, Done}

-- The formulas' max, min, - and +. An open bound is infinite: of a start's or finish's earliest minute downward, of all others upward, so
-- that a sum or difference is open as soon as one side is.
abbrev pub larger : Option ℕ → Option ℕ → Option ℕ
larger None y = y
larger (Some v) None = Some v
larger (Some v) (Some w) = Some (max v w)

abbrev pub smaller : Option ℕ → Option ℕ → Option ℕ
smaller None y = y
smaller (Some v) None = Some v
smaller (Some v) (Some w) = Some (min v w)

abbrev pub minus : Option ℕ → Option ℕ → Option ℕ
minus None y = None
minus (Some v) None = None
minus (Some v) (Some w) = Some (v + base - w)

abbrev pub plus : Option ℕ → Option ℕ → Option ℕ
plus None y = None
plus (Some v) None = None
plus (Some v) (Some w) = Some (v + w - base)

-- of the least duration, which is never open
abbrev pub larger_number : ℕ → Option ℕ → ℕ
larger_number v None = v
larger_number v (Some w) = max v w

-- all six from the old values
unfoldable pub normal : Annotation → Annotation
normal a =
    record {
      ess = larger a.ess (minus a.efs a.greatest);
      lss = smaller a.lss (minus a.lfs (Some a.least));
      efs = larger a.efs (plus a.ess (Some a.least));
      lfs = smaller a.lfs (plus a.lss a.greatest);
      least = larger_number a.least (minus a.efs a.lss);
      greatest = smaller a.greatest (minus a.lfs a.ess);
      reference = a.reference;
    }

-- some interval is admitted, on some line of minutes
pub record Possible (a : Annotation) : Type 0 where
  pub origin : ℕ
  pub t1 : ℕ
  pub t2 : ℕ
  pub admits : Admits origin a t1 t2

-- an annotation as seven numbers in two's complement
abbrev pub plain : ℕ → ℕ
plain v = (v + (2 ^ 64 - base)) % 2 ^ 64

abbrev pub number_of : Option ℕ → ℕ
number_of None = none
number_of (Some v) = plain v

abbrev pub numbers_of : Annotation → List ℕ
numbers_of a =
    number_of a.ess
    ∷ number_of a.lss
    ∷ number_of a.efs
    ∷ number_of a.lfs
    ∷ plain a.least
    ∷ number_of a.greatest
    ∷ plain a.reference
    ∷ []

-- What normalising answers of the seven numbers l, and what it leaves of them: 18, 21, 26 with nothing changed, or the normal form.
pub data Normalised (l : List ℕ) : Outcome → List ℕ → Type 0 where
  value_range : annotation_in_range (annotation_of l) ≡ false → Normalised l (Err ValueRange) l
  no_interval : annotation_in_range (annotation_of l) ≡ true → (Possible (annotation_of l) → ⊥) → Normalised l (Err NoInterval) l
  normal_range :
      annotation_in_range (annotation_of l) ≡ true → Possible (annotation_of l) → annotation_in_range (normal (annotation_of l)) ≡ false
      → Normalised l (Err NormalRange) l
  done :
      annotation_in_range (annotation_of l) ≡ true → Possible (annotation_of l) → annotation_in_range (normal (annotation_of l)) ≡ true
      → Normalised l Done (numbers_of (normal (annotation_of l)))
