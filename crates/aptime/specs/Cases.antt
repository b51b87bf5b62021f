-- What texts say, and that a printed form reads as what it was: examples, each computed. Assumes nothing.
use Rattle.std.specs.Prelude.{ℕ, ◌≡◌, refl, List, [], ◌∷◌, ◌++◌, Ok}
use Rattle.rules.specs.Bytes.{text}
use Rattle.rules.specs.Program.{decimal_to}
use Rattle.statements.specs.Words.{trimmed, word, after, no_bound, natural, number, bound, truth}
use Rattle.statements.specs.Statements.{bounds, one, at, statement, says}
use Rattle.statements.specs.Cases.{minus}
use Rattle.statements.specs.declared.Fault.TheVariants.{Again, NotAsked}
use Rattle.printing.specs.Printing.{shifts_text, durations_text}
use Rattle.aptime.specs.Lines.{lines, Said, wrong, read_from, said_in}

-- a question about seven numbers, and the samples
abbrev whole : List ℕ → ℕ → List ℕ → Said
whole numbers z samples = Ok (record { numbers = numbers; asked = z }, samples)

-- the ward: asked an hour after the reference point, 90 minutes before it on
abbrev ward : List ℕ
ward = text "# ward\nstart -120 .. _\nfinish _ .. 0\n\nlasts 120 .. _\nfrom 60\nat -90 true\nasked 60"

abbrev ward_told : List ℕ
ward_told = minus 120 ∷ no_bound ∷ no_bound ∷ 0 ∷ 120 ∷ no_bound ∷ 60 ∷ []

ward_says : said_in ward ≡ whole ward_told 60 (minus 179 ∷ [])
unfolding trimmed word after natural number bound truth lines bounds one at statement says read_from said_in
ward_says = refl

-- what is not said is open, 0 as the least duration, and 0 as the reference point
silent_says : said_in (text "asked 5\n") ≡ whole (no_bound ∷ no_bound ∷ no_bound ∷ no_bound ∷ 0 ∷ no_bound ∷ 0 ∷ []) 5 []
unfolding trimmed word after natural number bound truth lines bounds one at statement says read_from said_in
silent_says = refl

-- the first line that is wrong, counted from 1; a missing `asked` is told of the line after the last
said_twice : said_in (text "from 1\nasked 1\nfrom 1\nstop") ≡ wrong 3 Again
unfolding trimmed word after natural number bound truth lines bounds one at statement says read_from said_in
said_twice = refl

bounds_twice : said_in (text "asked 1\nlasts _ .. 2\nfinish _ .. 2\nstart _ .. 2\nfinish 1 .. 3") ≡ wrong 5 Again
unfolding trimmed word after natural number bound truth lines bounds one at statement says read_from said_in
bounds_twice = refl

not_asked : said_in (text "from 1\n# that is all\n") ≡ wrong 3 NotAsked
unfolding trimmed word after natural number bound truth lines bounds one at statement says read_from said_in
not_asked = refl

-- a form, here with an open bound, reads as what it prints
some_form : List ℕ
some_form = minus 120 ∷ no_bound ∷ 0 ∷ 0 ∷ 120 ∷ 120 ∷ 60 ∷ []

reads_back :
    said_in (shifts_text some_form ++ durations_text some_form ++ text "asked -7\n")
    ≡ whole (minus 120 ∷ no_bound ∷ 0 ∷ 0 ∷ 120 ∷ 120 ∷ 60 ∷ []) (minus 7) []
unfolding some_form decimal_to shifts_text durations_text
    trimmed word after natural number bound truth lines bounds one at statement says read_from said_in
reads_back = refl
