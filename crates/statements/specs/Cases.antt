-- What lines say: examples, each computed. Assumes nothing.
use Rattle.std.specs.Prelude.{◌≡◌, ℕ, ◌-◌, ◌^◌, List, [], ◌∷◌, refl, Result, Ok, Err}
use Rattle.rules.specs.Bytes.{text}
use Rattle.statements.specs.Words.{trimmed, word, after, no_bound, natural, number, bound, truth}
use Rattle.statements.specs.Statements.{bounds, one, at, statement, says}
use Rattle.statements.specs.declared.Fault.{Fault}
use Rattle.statements.specs.declared.Fault.TheVariants.{Unknown, NoNumber, NoDots, NoTruth, More}
use Rattle.statements.specs.declared.Pair.TheVariants.{Start, Lasts}
use Rattle.statements.specs.declared.Single.TheVariants.{From}
use Rattle.statements.specs.declared.Saying.{Saying}
use Rattle.statements.specs.declared.Saying.TheVariants.{Nothing, Bounds, One, Sample}

-- a number below 0, in two's complement
abbrev pub minus : ℕ → ℕ
minus x = 2 ^ 64 - x

-- lines, and what they say
abbrev read : List (List ℕ)
read =
    text ""
    ∷ text "  # a remark"
    ∷ text "start -120 .. _"
    ∷ text "  lasts _ .. 9999999999"
    ∷ text "from -0"
    ∷ text "at -90 true"
    ∷ text "at 7 false"
    ∷ text "start 1..2"
    ∷ text "start 1 - 2"
    ∷ text "start 1 .. two"
    ∷ text "from 12345678901"
    ∷ text "from _"
    ∷ text "at 7 yes"
    ∷ text "from 3 4"
    ∷ text "stop 3"
    ∷ text "from"
    ∷ text "asked -"
    ∷ text "start"
    ∷ text "start 1 .. 2 3"
    ∷ text "at 7 true 8"
    ∷ text "\tfrom\t3\r"
    ∷ []

abbrev meant : List (Result Saying Fault)
meant =
    Ok Nothing
    ∷ Ok Nothing
    ∷ Ok (Bounds Start (minus 120) no_bound)
    ∷ Ok (Bounds Lasts 0 9999999999)
    ∷ Ok (One From 0)
    ∷ Ok (Sample (minus 179))
    ∷ Ok (Sample 14)
    ∷ Err NoNumber
    ∷ Err NoDots
    ∷ Err NoNumber
    ∷ Err NoNumber
    ∷ Err NoNumber
    ∷ Err NoTruth
    ∷ Err More
    ∷ Err Unknown
    ∷ Err NoNumber
    ∷ Err NoNumber
    ∷ Err NoNumber
    ∷ Err More
    ∷ Err More
    ∷ Ok (One From 3)
    ∷ []

each : List (List ℕ) → List (Result Saying Fault)
each [] = []
each (l ∷ ls) = says l ∷ each ls

lines_say : each read ≡ meant
unfolding each trimmed word after natural number bound truth bounds one at statement says
lines_say = refl
