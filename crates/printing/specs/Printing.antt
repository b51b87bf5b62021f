-- The texts that are printed. Assumes nothing.
use Rattle.std.specs.Prelude.{ℕ, ◌-◌, ◌^◌, Bool, true, false, cond, List, [], ◌++◌, get_or, eqb, ltb, Result, Ok, Err}
use Rattle.rules.specs.Bytes.{text}
use Rattle.rules.specs.Program.{decimal, line}
use Rattle.rules.specs.declared.Refusal.{Refusal}
use Rattle.time.specs.declared.Judgement.{Judgement}
use Rattle.time.specs.declared.Judgement.TheVariants as judgement
use Rattle.statements.specs.Words.{no_bound}
use Rattle.statements.specs.declared.Fault.{Fault}
use Rattle.statements.specs.declared.Fault.TheVariants.{Unknown, NoNumber, NoDots, NoTruth, More, Again, NotAsked}
use Rattle.rules.specs.Answers.{Outcome}

-- a number with a sign; a minute of a judgement, which is coded; a bound, in two's complement
abbrev pub signed : Bool → ℕ → List ℕ
signed negative size = cond negative (text "-") [] ++ decimal size

abbrev pub minute : ℕ → List ℕ
minute v = cond (ltb v 4000000000) (signed true (4000000000 - v)) (signed false (v - 4000000000))

abbrev pub bound_text : ℕ → List ℕ
bound_text x = cond (eqb x no_bound) (text "_") (cond (ltb x no_bound) (signed false x) (signed true (2 ^ 64 - x)))

-- a line that is wrong
abbrev pub fault_text : Fault → List ℕ
fault_text Unknown = text "not a statement\n"
fault_text NoNumber = text "a number was expected\n"
fault_text NoDots = text "'..' was expected\n"
fault_text NoTruth = text "'true' or 'false' was expected\n"
fault_text More = text "something follows the statement\n"
fault_text Again = text "said before\n"
fault_text NotAsked = text "'asked' is missing\n"

abbrev pub wrong_text : ℕ → Fault → List ℕ
wrong_text k fault = text "line " ++ decimal k ++ text ": " ++ fault_text fault

-- the normal form, in the words of the input
abbrev pub bounds_text : List ℕ → ℕ → ℕ → List ℕ
bounds_text name x y = name ++ bound_text x ++ text " .. " ++ bound_text y ++ text "\n"

unfoldable pub shifts_text : List ℕ → List ℕ
shifts_text n =
    bounds_text (text "start ") (get_or n 0 0) (get_or n 1 0) ++ bounds_text (text "finish ") (get_or n 2 0) (get_or n 3 0)

unfoldable pub durations_text : List ℕ → List ℕ
durations_text n =
    bounds_text (text "lasts ") (get_or n 4 0) (get_or n 5 0) ++ text "from " ++ bound_text (get_or n 6 0) ++ text "\n"

abbrev pub normal_text : List ℕ → List ℕ
normal_text n = text "normal form:\n" ++ shifts_text n ++ durations_text n

abbrev pub refused_text : Refusal → List ℕ
refused_text why = line 0 (Err why)

abbrev pub no_normal_text : Refusal → List ℕ
no_normal_text why = text "no normal form: " ++ refused_text why

-- the numbers of the normal form, or why there is none; and the same of what normalising came to and the numbers that it left
abbrev pub form_text : Result (List ℕ) Refusal → List ℕ
form_text (Ok numbers) = normal_text numbers
form_text (Err why) = no_normal_text why

abbrev pub outcome_text : Outcome → List ℕ → List ℕ
outcome_text (Ok tt) numbers = normal_text numbers
outcome_text (Err why) numbers = no_normal_text why

-- the answer: a refusal of the question is all that is said
abbrev pub satisfied_text : ℕ → ℕ → List ℕ
satisfied_text first last = text "satisfied by " ++ minute first ++ text " .. " ++ minute last ++ text "\nsatisfiable\n"

abbrev pub judged_text : Judgement → List ℕ
judged_text (judgement.Satisfied first last) = satisfied_text first last
judged_text judgement.Satisfiable = text "not satisfied\nsatisfiable\n"
judged_text judgement.Neither = text "not satisfied\nnot satisfiable\n"

abbrev pub answer_text : Result Judgement Refusal → Outcome → List ℕ → List ℕ
answer_text (Ok judgement) outcome numbers = judged_text judgement ++ outcome_text outcome numbers
answer_text (Err why) outcome numbers = refused_text why
