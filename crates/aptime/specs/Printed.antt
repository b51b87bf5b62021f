-- What is printed for a text: the answer to what it tells, in the words of crate `printing`. Assumes nothing.
use Rattle.std.specs.Prelude.{ℕ, ◌≤◌, ◌<◌, ◌≡◌, List, ◌++◌, length, Result, Ok}
use Rattle.rules.specs.declared.Refusal.{Refusal}
use Rattle.rules.specs.declared.Refusal.TheVariants.{InputLong}
use Rattle.rules.specs.Answers.{Outcome}
use Rattle.time.specs.Normal.{Normalised}
use Rattle.time.specs.Patterns.{Judged}
use Rattle.time.specs.declared.Judgement.{Judgement}
use Rattle.statements.specs.declared.Fault.{Fault}
use Rattle.printing.specs.Printing.{refused_text, wrong_text, judged_text, form_text, answer_text}
use Rattle.aptime.specs.Lines.{wrong, said_in}
use Rattle.aptime.specs.declared.Question.{Question}
use Rattle.aptime.specs.declared.Response.{Response}
use Rattle.aptime.specs.declared.Response.TheVariants as response

-- the text of a response
abbrev pub response_text : Response → List ℕ
response_text (response.Refused why) = refused_text why
response_text (response.Wrong w) = wrong_text w.line w.fault
response_text (response.Answered a) = judged_text a.judgement ++ form_text a.normal

-- the answer to a question: of a judgement and a normal form that the definitions permit
pub record Answered (question : Question) (samples out : List ℕ) : Type 0 where
  pub judgement : Result Judgement Refusal
  pub judged : Judged question.numbers samples question.asked judgement
  pub outcome : Outcome
  pub normal : List ℕ
  pub normalised : Normalised question.numbers outcome normal
  pub printed : out ≡ answer_text judgement outcome normal

-- what is printed for an input: 16 is looked for first, then the first line that is wrong
pub data Printed (input out : List ℕ) : Type 0 where
  too_long : 65536 < length input → out ≡ refused_text InputLong → Printed input out
  faulty : {k : ℕ} {fault : Fault} → length input ≤ 65536 → said_in input ≡ wrong k fault → out ≡ wrong_text k fault → Printed input out
  answered :
      {question : Question} {samples : List ℕ} → length input ≤ 65536 → said_in input ≡ Ok (question, samples)
      → Answered question samples out
      → Printed input out
