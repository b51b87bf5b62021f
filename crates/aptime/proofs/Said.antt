-- What was said is known as said: behind a statement that may stand no other of its kind may stand. Assumes nothing.
use Rattle.std.proofs.Common.{◌≡◌, ℕ, Option, Some, None, Ok, Err, refl}
use Rattle.statements.specs.declared.Pair.{Pair}
use Rattle.statements.specs.declared.Pair.TheVariants.{Start, Finish, Lasts}
use Rattle.statements.specs.declared.Single.{Single}
use Rattle.statements.specs.declared.Single.TheVariants.{From, Asked}
use Rattle.statements.specs.declared.Fault.TheVariants.{Again}
use Rattle.aptime.specs.Lines.{once, if_once, told_bounds, told_one}
use Rattle.aptime.specs.declared.Told.{Told}

module _ {A : Type 0} (put : Option A → Told) (kept : Told → Option A) (is_kept : (x : Option A) → kept (put x) ≡ x) where
  known :
      (before : Option A) (x y : A) (after : Told) (put' : Option A → Told) → if_once put (once before x) ≡ Ok after
      → if_once put' (once (kept after) y) ≡ Err Again
  known None x y after put' e = let is : put (Some x) ≡ after = cc in rw (← is, is_kept (Some x)) refl
  known (Some z) x y after put' e = absurd (cc)

pub bounds_said :
    (pair : Pair) (b c : ℕ × ℕ) (told told' : Told) → told_bounds pair b told ≡ Ok told' → told_bounds pair c told' ≡ Err Again
bounds_said Start b c told told' e = known _ (λ (t : Told). t.start) (λ x. refl) told.start b c told' _ e
bounds_said Finish b c told told' e = known _ (λ (t : Told). t.finish) (λ x. refl) told.finish b c told' _ e
bounds_said Lasts b c told told' e = known _ (λ (t : Told). t.lasts) (λ x. refl) told.lasts b c told' _ e

pub number_said :
    (single : Single) (x y : ℕ) (told told' : Told) → told_one single x told ≡ Ok told' → told_one single y told' ≡ Err Again
number_said From x y told told' e = known _ (λ (t : Told). t.from) (λ x. refl) told.from x y told' _ e
number_said Asked x y told told' e = known _ (λ (t : Told). t.asked) (λ x. refl) told.asked x y told' _ e
