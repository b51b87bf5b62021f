-- The normal form of an annotation admits the same intervals, and is its own normal form. Assumes nothing.
use Prim.Native.Nat.{ℕ, ◌+◌, ◌≤◌}
use native.Mathlib.Omega.{arith}
use mathlib.Core.Path.{◌≡◌}
use Rattle.time.specs.Annotations.{base, NotSooner, NotLater, NotLonger, Admits}
use Rattle.time.specs.Normal.{larger, smaller, minus, plus, larger_number, normal, Possible}
use Rattle.time.specs.Search.{NearBound, NearAll}
use Rattle.std.specs.Prelude.{Option, None, Some}
use Rattle.time.specs.declared.Annotation.{Annotation}

-- a bound and one that narrows it, against a minute or an interval: both hold exactly where the larger or smaller one does
module _ (o r : ℕ) where
  larger_both : (x y : Option ℕ) (t : ℕ) → NotSooner o r x t → NotSooner o r y t → NotSooner o r (larger x y) t
  larger_both x y t p q = grind arith

  larger_first : (x y : Option ℕ) (t : ℕ) → NotSooner o r (larger x y) t → NotSooner o r x t
  larger_first x y t p = grind arith

  smaller_both : (x y : Option ℕ) (t : ℕ) → NotLater o r x t → NotLater o r y t → NotLater o r (smaller x y) t
  smaller_both x y t p q = grind arith

  smaller_first : (x y : Option ℕ) (t : ℕ) → NotLater o r (smaller x y) t → NotLater o r x t
  smaller_first x y t p = grind arith

short_both : (x y : Option ℕ) (t1 t2 : ℕ) → NotLonger x t1 t2 → NotLonger y t1 t2 → NotLonger (smaller x y) t1 t2
short_both x y t1 t2 p q = grind arith

short_first : (x y : Option ℕ) (t1 t2 : ℕ) → NotLonger (smaller x y) t1 t2 → NotLonger x t1 t2
short_first x y t1 t2 p = grind arith

least_kept : (k : ℕ) (y : Option ℕ) → k ≤ larger_number k y
least_kept k y = grind arith

-- what each formula adds holds of an interval that is admitted
module _ (o r t1 t2 k : ℕ) (long : t1 + k ≤ t2 + base) where
  ess_too :
      (efs greatest : Option ℕ) → NearBound efs → NearBound greatest → NotSooner o r efs t2 → NotLonger greatest t1 t2
      → NotSooner o r (minus efs greatest) t1
  ess_too efs greatest hx hy p q = grind arith

  lss_too : (lfs : Option ℕ) → NearBound lfs → k ≤ 5000000000 → NotLater o r lfs t2 → NotLater o r (minus lfs (Some k)) t1
  lss_too lfs hx l p = grind arith

  efs_too : (ess : Option ℕ) → NearBound ess → base ≤ k → NotSooner o r ess t1 → NotSooner o r (plus ess (Some k)) t2
  efs_too ess hx l p = grind arith

  lfs_too :
      (lss greatest : Option ℕ) → NearBound lss → NearBound greatest → NotLater o r lss t1 → NotLonger greatest t1 t2
      → NotLater o r (plus lss greatest) t2
  lfs_too lss greatest hx hy p q = grind arith

  least_too :
      (efs lss : Option ℕ) → NearBound efs → NearBound lss → NotSooner o r efs t2 → NotLater o r lss t1
      → t1 + larger_number k (minus efs lss) ≤ t2 + base
  least_too efs lss hx hy p q = grind arith

  greatest_too :
      (lfs ess : Option ℕ) → NearBound lfs → NearBound ess → NotLater o r lfs t2 → NotSooner o r ess t1 → NotLonger (minus lfs ess) t1 t2
  greatest_too lfs ess hx hy p q = grind arith

module _ (a : Annotation) (n : NearAll a) (o t1 t2 : ℕ) where
  abbrev r : ℕ
  r = a.reference

  abbrev k : ℕ
  k = a.least

  pub normal_admits : Admits o a t1 t2 → Admits o (normal a) t1 t2
  unfolding normal
  normal_admits m =
      let long : t1 + a.least ≤ t2 + base = m.long in
      record {
        ordered = m.ordered;
        long = least_too o r t1 t2 k long a.efs a.lss n.efs n.lss m.efs m.lss;
        short =
            short_both a.greatest (minus a.lfs a.ess) t1 t2 m.short
            (greatest_too o r t1 t2 k long a.lfs a.ess n.lfs n.ess m.lfs m.ess);
        ess =
            larger_both o r a.ess (minus a.efs a.greatest) t1 m.ess
            (ess_too o r t1 t2 k long a.efs a.greatest n.efs n.greatest m.efs m.short);
        lss =
            smaller_both o r a.lss (minus a.lfs (Some k)) t1 m.lss (lss_too o r t1 t2 k long a.lfs n.lfs n.least m.lfs);
        efs =
            larger_both o r a.efs (plus a.ess (Some k)) t2 m.efs (efs_too o r t1 t2 k long a.ess n.ess n.low m.ess);
        lfs =
            smaller_both o r a.lfs (plus a.lss a.greatest) t2 m.lfs
            (lfs_too o r t1 t2 k long a.lss a.greatest n.lss n.greatest m.lss m.short);
      }

  pub admits_normal : Admits o (normal a) t1 t2 → Admits o a t1 t2
  unfolding normal
  admits_normal m =
      let kept = least_kept k (minus a.efs a.lss) in
      let long : t1 + larger_number k (minus a.efs a.lss) ≤ t2 + base = m.long in
      record {
        ordered = m.ordered;
        long = omega arith;
        short = short_first a.greatest (minus a.lfs a.ess) t1 t2 m.short;
        ess = larger_first o r a.ess (minus a.efs a.greatest) t1 m.ess;
        lss = smaller_first o r a.lss (minus a.lfs (Some k)) t1 m.lss;
        efs = larger_first o r a.efs (plus a.ess (Some k)) t2 m.efs;
        lfs = smaller_first o r a.lfs (plus a.lss a.greatest) t2 m.lfs;
      }

-- y adds nothing to x, of least bounds and of greatest ones
abbrev Under : Option ℕ → Option ℕ → Type 0
Under None x = Unit
Under (Some w) None = ⊥
Under (Some w) (Some v) = w ≤ v

abbrev Over : Option ℕ → Option ℕ → Type 0
Over None x = Unit
Over (Some w) None = ⊥
Over (Some w) (Some v) = v ≤ w

larger_keeps : (x y : Option ℕ) → Under y x → larger x y ≡ x
larger_keeps x y p = grind arith

smaller_keeps : (x y : Option ℕ) → Over y x → smaller x y ≡ x
smaller_keeps x y p = grind arith

number_keeps : (k : ℕ) (y : Option ℕ) → Under y (Some k) → larger_number k y ≡ k
number_keeps k y p = grind arith

-- each formula over the normal bounds adds nothing, where some interval is admitted
module _ (o r t1 t2 k : ℕ) (low : base ≤ k) (small : k ≤ 5000000000) (long : t1 + k ≤ t2 + base) where
  ess_again :
      (ess efs lfs greatest : Option ℕ) → NearBound ess → NearBound efs → NearBound lfs → NearBound greatest
      → NotSooner o r ess t1 → NotSooner o r efs t2 → NotLater o r lfs t2 → NotLonger greatest t1 t2
      → Under (minus (larger efs (plus ess (Some k))) (smaller greatest (minus lfs ess))) (larger ess (minus efs greatest))
  ess_again ess efs lfs greatest hs he hf hd ps pe pf pd = grind arith

  lss_again :
      (lss lfs efs greatest : Option ℕ) → NearBound lss → NearBound lfs → NearBound efs → NearBound greatest
      → NotLater o r lss t1 → NotLater o r lfs t2 → NotSooner o r efs t2 → NotLonger greatest t1 t2
      → Over (minus (smaller lfs (plus lss greatest)) (Some (larger_number k (minus efs lss)))) (smaller lss (minus lfs (Some k)))
  lss_again lss lfs efs greatest hl hf he hd pl pf pe pd = grind arith

  efs_again :
      (ess efs greatest lss : Option ℕ) → NearBound ess → NearBound efs → NearBound greatest → NearBound lss
      → NotSooner o r ess t1 → NotSooner o r efs t2 → NotLonger greatest t1 t2 → NotLater o r lss t1
      → Under (plus (larger ess (minus efs greatest)) (Some (larger_number k (minus efs lss)))) (larger efs (plus ess (Some k)))
  efs_again ess efs greatest lss hs he hd hl ps pe pd pl = grind arith

  lfs_again :
      (lss lfs greatest ess : Option ℕ) → NearBound lss → NearBound lfs → NearBound greatest → NearBound ess
      → NotLater o r lss t1 → NotLater o r lfs t2 → NotLonger greatest t1 t2 → NotSooner o r ess t1
      → Over (plus (smaller lss (minus lfs (Some k))) (smaller greatest (minus lfs ess))) (smaller lfs (plus lss greatest))
  lfs_again lss lfs greatest ess hl hf hd hs pl pf pd ps = grind arith

  least_again :
      (efs lss ess lfs : Option ℕ) → NearBound efs → NearBound lss → NearBound ess → NearBound lfs
      → NotSooner o r efs t2 → NotLater o r lss t1 → NotSooner o r ess t1 → NotLater o r lfs t2
      → Under (minus (larger efs (plus ess (Some k))) (smaller lss (minus lfs (Some k)))) (Some (larger_number k (minus efs lss)))
  least_again efs lss ess lfs he hl hs hf pe pl ps pf = grind arith

  greatest_again :
      (greatest lfs ess lss efs : Option ℕ) → NearBound greatest → NearBound lfs → NearBound ess → NearBound lss → NearBound efs
      → NotLonger greatest t1 t2 → NotLater o r lfs t2 → NotSooner o r ess t1 → NotLater o r lss t1 → NotSooner o r efs t2
      → Over (minus (smaller lfs (plus lss greatest)) (larger ess (minus efs greatest))) (smaller greatest (minus lfs ess))
  greatest_again greatest lfs ess lss efs hd hf hs hl he pd pf ps pl pe = grind arith

module _ (a : Annotation) (n : NearAll a) (o t1 t2 : ℕ) (m : Admits o a t1 t2) where
  abbrev r' : ℕ
  r' = a.reference

  abbrev k' : ℕ
  k' = a.least

  abbrev ess' : Option ℕ
  ess' = larger a.ess (minus a.efs a.greatest)

  abbrev lss' : Option ℕ
  lss' = smaller a.lss (minus a.lfs (Some k'))

  abbrev efs' : Option ℕ
  efs' = larger a.efs (plus a.ess (Some k'))

  abbrev lfs' : Option ℕ
  lfs' = smaller a.lfs (plus a.lss a.greatest)

  abbrev least' : ℕ
  least' = larger_number k' (minus a.efs a.lss)

  abbrev greatest' : Option ℕ
  greatest' = smaller a.greatest (minus a.lfs a.ess)

  again : normal (normal a) ≡ normal a
  unfolding normal
  again =
      let ess = ess_again o r' t1 t2 k' n.low n.least m.long a.ess a.efs a.lfs a.greatest
      n.ess n.efs n.lfs n.greatest m.ess m.efs m.lfs m.short in
      let lss = lss_again o r' t1 t2 k' n.low n.least m.long a.lss a.lfs a.efs a.greatest
      n.lss n.lfs n.efs n.greatest m.lss m.lfs m.efs m.short in
      let efs = efs_again o r' t1 t2 k' n.low n.least m.long a.ess a.efs a.greatest a.lss
      n.ess n.efs n.greatest n.lss m.ess m.efs m.short m.lss in
      let lfs = lfs_again o r' t1 t2 k' n.low n.least m.long a.lss a.lfs a.greatest a.ess
      n.lss n.lfs n.greatest n.ess m.lss m.lfs m.short m.ess in
      let least = least_again o r' t1 t2 k' n.low n.least m.long a.efs a.lss a.ess a.lfs
      n.efs n.lss n.ess n.lfs m.efs m.lss m.ess m.lfs in
      let greatest = greatest_again o r' t1 t2 k' n.low n.least m.long a.greatest a.lfs a.ess a.lss a.efs
      n.greatest n.lfs n.ess n.lss n.efs m.short m.lfs m.ess m.lss m.efs in
      simp (
        larger_keeps ess' (minus efs' greatest') ess,
        smaller_keeps lss' (minus lfs' (Some least')) lss,
        larger_keeps efs' (plus ess' (Some least')) efs,
        smaller_keeps lfs' (plus lss' greatest') lfs,
        number_keeps least' (minus efs' lss') least,
        smaller_keeps greatest' (minus lfs' ess') greatest,
      )

-- normalising again changes nothing
pub normal_again : (a : Annotation) → NearAll a → Possible a → normal (normal a) ≡ normal a
normal_again a n y = again a n y.origin y.t1 y.t2 y.admits
