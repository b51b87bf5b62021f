-- What is printed: examples, each computed. Assumes nothing.
use Rattle.std.specs.Prelude.{◌≡◌, refl, [], ◌∷◌, Ok, Err}
use Rattle.rules.specs.Bytes.{text}
use Rattle.rules.specs.Program.{decimal_to}
use Rattle.rules.specs.declared.Refusal.TheVariants.{ManySamples, NoInterval, NormalRange}
use Rattle.time.specs.declared.Judgement.TheVariants.{Satisfied, Satisfiable, Neither}
use Rattle.statements.specs.Cases.{minus}
use Rattle.statements.specs.declared.Fault.TheVariants.{Again}
use Rattle.printing.specs.Printing.{shifts_text, durations_text, wrong_text, answer_text}
use Rattle.rules.specs.Answers.{Done}

wrong_prints : wrong_text 3 Again ≡ text "line 3: said before\n"
unfolding decimal_to
wrong_prints = refl

ward_prints :
    answer_text (Ok (Satisfied 3999999940 4000000060)) Done (minus 120 ∷ minus 120 ∷ 0 ∷ 0 ∷ 120 ∷ 120 ∷ 60 ∷ [])
    ≡ text "satisfied by -60 .. 60\nsatisfiable\nnormal form:\nstart -120 .. -120\nfinish 0 .. 0\nlasts 120 .. 120\nfrom 60\n"
unfolding decimal_to shifts_text durations_text
ward_prints = refl

-- not satisfied, and still to be or not; no normal form; a question that is refused
yet_prints : answer_text (Ok Satisfiable) (Err NormalRange) [] ≡ text "not satisfied\nsatisfiable\nno normal form: refused 26 0 0\n"
unfolding decimal_to
yet_prints = refl

never_prints : answer_text (Ok Neither) (Err NoInterval) [] ≡ text "not satisfied\nnot satisfiable\nno normal form: refused 21 0 0\n"
unfolding decimal_to
never_prints = refl

refused_prints : answer_text (Err ManySamples) (Err NoInterval) [] ≡ text "refused 19 0 0\n"
unfolding decimal_to
refused_prints = refl
