-- What request (iii) promises of the definitions: satisfied implies satisfiable; an annotation and its normal form admit the same
-- intervals; normalising again changes nothing. Assumes nothing.
use Prim.Native.Nat.{ℕ}
use native.Mathlib.Omega.{arith}
use mathlib.Core.Path.{◌≡◌, sym, ◌∙◌, ap, subst}
use mathlib.Core.Bool.{true}
use mathlib.Core.List.{List}
use Rattle.time.specs.Annotations.{counted, bound_of, annotation_of, annotation_in_range, Admits}
use Rattle.time.specs.Patterns.{true_at, in_order, Satisfied, Satisfiable}
use Rattle.time.specs.Normal.{normal, Possible, plain, number_of, numbers_of, Normalised, done}
use Rattle.time.specs.Search.{Near, NearBound, NearAll}
use Rattle.std.specs.Prelude.{Option}
use Rattle.time.specs.declared.Annotation.{Annotation}
use Rattle.time.proofs.Ranges.{near_all}
use Rattle.time.proofs.Continued.{still_satisfiable}
use Rattle.time.proofs.Histories.{silent}
use Rattle.time.proofs.Normals.{normal_admits, admits_normal, normal_again}
use Rattle.rules.specs.Answers.{Done}

pub satisfied_is_satisfiable :
    (a : Annotation) (h : List ℕ) (asked : ℕ) → in_order h asked ≡ true → Satisfied a (true_at h asked)
    → Satisfiable a (true_at h asked) asked
satisfied_is_satisfiable a h asked order y = still_satisfiable a (true_at h asked) asked (silent h asked order) y

-- on every line of minutes, from every minute to every other
pub same_intervals :
    (a : Annotation) → annotation_in_range a ≡ true → (origin t1 t2 : ℕ)
    → (Admits origin a t1 t2 → Admits origin (normal a) t1 t2) × (Admits origin (normal a) t1 t2 → Admits origin a t1 t2)
same_intervals a ranged origin t1 t2 =
    let n = near_all a ranged in
    (normal_admits a n origin t1 t2, admits_normal a n origin t1 t2)

-- an annotation in range that is handed out is read back as it was
code_back : (v : ℕ) → Near v → counted (plain v) ≡ v
code_back v h = omega arith

bound_back : (b : Option ℕ) → NearBound b → bound_of (number_of b) ≡ b
bound_back b h = grind arith

read_back : (a : Annotation) → NearAll a → annotation_of (numbers_of a) ≡ a
read_back a n =
    simp (
      bound_back a.ess n.ess,
      bound_back a.lss n.lss,
      bound_back a.efs n.efs,
      bound_back a.lfs n.lfs,
      code_back a.least (omega (arith, n.low), n.least),
      bound_back a.greatest n.greatest,
      code_back a.reference n.reference,
    )

-- so the numbers that normalising leaves admit the same intervals as those that were handed in
pub normalised_same :
    (l m : List ℕ) → Normalised l Done m → (origin t1 t2 : ℕ)
    → (Admits origin (annotation_of l) t1 t2 → Admits origin (annotation_of m) t1 t2)
    × (Admits origin (annotation_of m) t1 t2 → Admits origin (annotation_of l) t1 t2)
normalised_same l m (done ranged some inside) origin t1 t2 =
    subst
    (λ (n : Annotation). (Admits origin (annotation_of l) t1 t2 → Admits origin n t1 t2)
    × (Admits origin n t1 t2 → Admits origin (annotation_of l) t1 t2))
    (sym (read_back (normal (annotation_of l)) (near_all (normal (annotation_of l)) inside)))
    (same_intervals (annotation_of l) ranged origin t1 t2)

-- what normalising leaves is normalised to itself
again :
    (a : Annotation) → annotation_in_range a ≡ true → Possible a → annotation_in_range (normal a) ≡ true
    → Normalised (numbers_of (normal a)) Done (numbers_of (normal a))
again a ranged some inside =
    let n = near_all a ranged in
    let read : annotation_of (numbers_of (normal a)) ≡ normal a = read_back (normal a) (near_all (normal a) inside) in
    let same : normal (annotation_of (numbers_of (normal a))) ≡ normal a = ap normal read ∙ normal_again a n some in
    let possible : Possible (normal a) =
    record {
      origin = some.origin;
      t1 = some.t1;
      t2 = some.t2;
      admits = normal_admits a n some.origin some.t1 some.t2 some.admits;
    } in
    subst (λ (m : List ℕ). Normalised (numbers_of (normal a)) Done m) (ap numbers_of same)
    (done
    (subst (λ (x : Annotation). annotation_in_range x ≡ true) (sym read) inside)
    (subst Possible (sym read) possible)
    (subst (λ (x : Annotation). annotation_in_range x ≡ true) (sym same) inside))

pub normalised_again : (l m : List ℕ) → Normalised l Done m → Normalised m Done m
normalised_again l m (done ranged some inside) = again (annotation_of l) ranged some inside
