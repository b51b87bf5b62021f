-- What the contracts of the functions that read speak of: a step of the reading, in the words of Lines. Nobody has to believe
-- this. Assumes nothing.
use Rattle.std.specs.Prelude.{ℕ, ◌≡◌, List, ◌++◌, Result, Ok, Err}
use Rattle.statements.specs.Statements.{says}
use Rattle.statements.specs.declared.Fault.{Fault}
use Rattle.printing.specs.declared.Wrong.{Wrong}
use Rattle.aptime.specs.Lines.{told_by, sample_of, said_in}
use Rattle.aptime.specs.declared.Told.{Told}
use Rattle.aptime.specs.declared.Question.{Question}

-- a line as a whole: a sample of it stands behind those before, where it is not wrong
abbrev pub Took : List ℕ → Told → List ℕ → Result Told Fault → List ℕ → Type 0
Took line told before (Ok after) samples = (told_by (says line) told ≡ Ok after) × (samples ≡ before ++ sample_of (says line))
Took line told before (Err fault) samples = told_by (says line) told ≡ Err fault

-- a text as a whole
abbrev pub ReadAs : List ℕ → Result Question Wrong → List ℕ → Type 0
ReadAs input (Ok question) samples = said_in input ≡ Ok (question, samples)
ReadAs input (Err w) samples = said_in input ≡ Err w
