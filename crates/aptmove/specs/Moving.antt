-- Document 02 (vi): the program `aptmove`, from the bytes of its input to those that it writes. Assumes nothing.
use Rattle.std.specs.Prelude.{ℕ, length, take, ltb, Result, Ok, Err}
use Rattle.std.proofs.Math.Bool.{cond}
use mathlib.Core.List.{List, []}
use Rattle.io.specs.Counts.{IsPrefixLen}
use Rattle.arrayvec.specs.ArrayVec.{ArrayVec}
use Rattle.rules.specs.WaitFor.{first_version}
use Rattle.rules.specs.Answers.{◌and_then◌, refuse_if, Outcome}
use Rattle.rules.specs.Program.{line}
use Rattle.rules.specs.declared.Refusal.TheVariants.{InputLong}
use Rattle.versions.specs.Versions.{in_version1, in_version2, check_to1, check_to2}

module _ (input : List ℕ) where
  -- 16 first; then, of a table of version 1, the checks of a move to version 2, and of any other those of a move to version 1
  unfoldable pub check : Outcome
  unfolding check_to1
  check = refuse_if (ltb 65536 (length input)) InputLong and_then cond (first_version input) (check_to2 input) (check_to1 input)

  -- the table in its other version
  unfoldable pub moved : List ℕ
  unfolding in_version1 in_version2
  moved = cond (first_version input) (in_version2 input) (in_version1 input)

  -- what is written on standard output
  unfoldable pub printed : List ℕ
  unfolding check moved
  printed = elim check [ Ok tt ↦ moved | Err why ↦ [] ]

  -- what is written on standard error: the line that `aprcheck` has for a refusal
  unfoldable pub complained : List ℕ
  unfolding check
  complained = elim check [ Ok tt ↦ [] | Err why ↦ line 0 (Err why) ]

-- what is answered: where the table ends in the buffer, or a line
abbrev pub Report : Type 0
Report = Result ℕ (ArrayVec ℕ)

-- what goes on each of the two, by what is answered and the bytes of the buffer
abbrev pub on_output : Report → List ℕ → List ℕ
on_output (Ok end) out = take end out
on_output (Err told) out = []

abbrev pub on_error : Report → List ℕ
on_error (Ok end) = []
on_error (Err told) = told.items

-- the buffer has these bytes
abbrev pub Within : Report → List ℕ → Type 0
Within (Ok end) out = IsPrefixLen end out
Within (Err told) out = Unit {0}
