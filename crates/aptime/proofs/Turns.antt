-- The reading of a text, line by line as the code goes. Assumes nothing.
use Rattle.std.proofs.Common.{◌≡◌, ℕ, ◌+◌, List, [], ◌∷◌, ◌++◌, refl, add-one, Some, None, Ok, Err}
use Rattle.statements.specs.Statements.{says}
use Rattle.statements.specs.declared.Fault.{Fault}
use Rattle.statements.specs.declared.Fault.TheVariants.{NotAsked}
use Rattle.aptime.specs.Lines.{told_by, sample_of, wrong, numbers_of, read_from, said_in, lines, silent}
use Rattle.aptime.specs.declared.Told.{Told}

pub at_first : (input samples : List ℕ) → samples ≡ [] → read_from 1 silent samples (lines input) ≡ said_in input
unfolding said_in
at_first input samples none = rw none refl

module _ (line : ℕ) (told : Told) (samples : List ℕ) (rest : List (List ℕ)) where
  module _ (text : List ℕ) (tail : List (List ℕ)) (first : rest ≡ text ∷ tail) where
    -- a line that may stand
    pub goes_on :
        (told' : Told) (samples' : List ℕ)
        → told_by (says text) told ≡ Ok told'
        → samples' ≡ samples ++ sample_of (says text)
        → read_from (line + 1) told' samples' tail ≡ read_from line told samples rest
    unfolding read_from
    goes_on told' samples' fine kept = rw (add-one line, kept, first, fine) refl

    -- a line that may not
    pub stops : (fault : Fault) → told_by (says text) told ≡ Err fault → read_from line told samples rest ≡ wrong line fault
    unfolding read_from
    stops fault bad = rw (first, bad) refl

  module _ (done : rest ≡ []) where
    -- the end, where `asked` is missing, and where it is there
    pub not_asked : told.asked ≡ None → read_from line told samples rest ≡ wrong line NotAsked
    unfolding read_from
    not_asked e = rw (done, e) refl

    pub all_read :
        (z : ℕ) → told.asked ≡ Some z → read_from line told samples rest ≡ Ok (record { numbers = numbers_of told; asked = z }, samples)
    unfolding read_from
    all_read z e = rw (done, e) refl
