-- What the lines of a text say, and the first that is wrong. Assumes nothing.
use Rattle.std.specs.Prelude.{ℕ, suc, cond, List, [], ◌∷◌, ◌++◌, eqb, Option, None, Some, Result, Ok, Err}
use Rattle.std.specs.Option.{unwrap_or}
use Rattle.statements.specs.Words.{no_bound}
use Rattle.statements.specs.Statements.{says}
use Rattle.statements.specs.declared.Pair.{Pair}
use Rattle.statements.specs.declared.Pair.TheVariants.{Start, Finish, Lasts}
use Rattle.statements.specs.declared.Single.{Single}
use Rattle.statements.specs.declared.Single.TheVariants.{From, Asked}
use Rattle.statements.specs.declared.Fault.{Fault}
use Rattle.statements.specs.declared.Fault.TheVariants.{Again, NotAsked}
use Rattle.statements.specs.declared.Saying.{Saying}
use Rattle.statements.specs.declared.Saying.TheVariants.{Nothing, Bounds, One, Sample}
use Rattle.printing.specs.declared.Wrong.{Wrong}
use Rattle.aptime.specs.declared.Told.{Told}
use Rattle.aptime.specs.declared.Question.{Question}

-- the lines of a text; the last may lack its newline
abbrev pub onto : ℕ → List (List ℕ) → List (List ℕ)
onto b [] = (b ∷ []) ∷ []
onto b (l ∷ ls) = (b ∷ l) ∷ ls

unfoldable pub lines : List ℕ → List (List ℕ)
lines [] = []
lines (b ∷ s) = cond (eqb b 10) ([] ∷ lines s) (onto b (lines s))

-- nothing is told yet
abbrev pub silent : Told
silent = record { start = None; finish = None; lasts = None; from = None; asked = None }

-- a statement is said once
abbrev pub once : {A : Type 0} → Option A → A → Result (Option A) Fault
once None x = Ok (Some x)
once (Some y) x = Err Again

-- what f makes of what is said once, or the fault
abbrev pub if_once : {A B : Type 0} → (A → B) → Result A Fault → Result B Fault
if_once f (Ok x) = Ok (f x)
if_once f (Err fault) = Err fault

module _ (told : Told) where
  abbrev pub told_start : Option (ℕ × ℕ) → Told
  told_start x = record { start = x; finish = told.finish; lasts = told.lasts; from = told.from; asked = told.asked }

  abbrev pub told_finish : Option (ℕ × ℕ) → Told
  told_finish x = record { start = told.start; finish = x; lasts = told.lasts; from = told.from; asked = told.asked }

  abbrev pub told_lasts : Option (ℕ × ℕ) → Told
  told_lasts x = record { start = told.start; finish = told.finish; lasts = x; from = told.from; asked = told.asked }

  abbrev pub told_from : Option ℕ → Told
  told_from x = record { start = told.start; finish = told.finish; lasts = told.lasts; from = x; asked = told.asked }

  abbrev pub told_asked : Option ℕ → Told
  told_asked x = record { start = told.start; finish = told.finish; lasts = told.lasts; from = told.from; asked = x }

-- what was told, with two bounds, with a number, and with what a line says
abbrev pub told_bounds : Pair → ℕ × ℕ → Told → Result Told Fault
told_bounds Start b told = if_once (told_start told) (once told.start b)
told_bounds Finish b told = if_once (told_finish told) (once told.finish b)
told_bounds Lasts b told = if_once (told_lasts told) (once told.lasts b)

abbrev pub told_one : Single → ℕ → Told → Result Told Fault
told_one From x told = if_once (told_from told) (once told.from x)
told_one Asked x told = if_once (told_asked told) (once told.asked x)

abbrev pub told_and : Saying → Told → Result Told Fault
told_and Nothing told = Ok told
told_and (Bounds pair x y) told = told_bounds pair (x, y) told
told_and (One single x) told = told_one single x told
told_and (Sample x) told = Ok told

-- what was told, with a line, which may be wrong, and its sample
abbrev pub told_by : Result Saying Fault → Told → Result Told Fault
told_by (Ok saying) told = told_and saying told
told_by (Err fault) told = Err fault

abbrev pub sample_of : Result Saying Fault → List ℕ
sample_of (Ok Nothing) = []
sample_of (Ok (Bounds pair x y)) = []
sample_of (Ok (One single x)) = []
sample_of (Ok (Sample x)) = x ∷ []
sample_of (Err fault) = []

-- the seven numbers of an annotation: where nothing was said, document 001's default (Table 1)
abbrev pub numbers_by : ℕ × ℕ → ℕ × ℕ → ℕ × ℕ → ℕ → List ℕ
numbers_by s f l r = s.0 ∷ s.1 ∷ f.0 ∷ f.1 ∷ l.0 ∷ l.1 ∷ r ∷ []

abbrev pub numbers_of : Told → List ℕ
numbers_of told =
    numbers_by (unwrap_or told.start (no_bound, no_bound)) (unwrap_or told.finish (no_bound, no_bound)) (unwrap_or told.lasts (0, no_bound))
    (unwrap_or told.from 0)

-- what a text says: a question and the samples, or the first line that is wrong
abbrev pub Said : Type 0
Said = Result (Question × List ℕ) Wrong

abbrev pub wrong : ℕ → Fault → Said
wrong k fault = Err (record { line = k; fault = fault })

abbrev pub or_wrong : Result Told Fault → ℕ → (Told → Said) → Said
or_wrong (Ok told) k rest = rest told
or_wrong (Err fault) k rest = wrong k fault

-- `asked` must be there
abbrev pub question_of : Option ℕ → ℕ → Told → List ℕ → Said
question_of None k told samples = wrong k NotAsked
question_of (Some z) k told samples = Ok (record { numbers = numbers_of told; asked = z }, samples)

-- the lines from line k on, after what was told and the samples of those before
unfoldable pub read_from : ℕ → Told → List ℕ → List (List ℕ) → Said
read_from k told samples [] = question_of told.asked k told samples
read_from k told samples (l ∷ ls) =
    or_wrong (told_by (says l) told) k (λ (t : Told). read_from (suc k) t (samples ++ sample_of (says l)) ls)

unfoldable pub said_in : List ℕ → Said
said_in input = read_from 1 silent [] (lines input)
