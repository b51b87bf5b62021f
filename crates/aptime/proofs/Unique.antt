-- One answer: any two that the contract of `report` permits for an input have the same bytes, the contract being as Rattle reads it.
-- Assumes nothing.
use Rattle.std.proofs.Common.{◌≡◌, ℕ, List, Result, Ok, sym, ap, ◌∙◌, subst, refl, arith}
use contract.Lifetimes.{Lfts}
use Rattle.rules.specs.Answers.{Outcome}
use Rattle.rules.specs.declared.Refusal.{Refusal}
use Rattle.time.specs.declared.Judgement.{Judgement}
use Rattle.time.proofs.Unique.{judged_once, normalised_once}
use Rattle.printing.specs.Printing.{wrong_text, answer_text}
use Rattle.statements.specs.declared.Fault.{Fault}
use Rattle.printing.specs.declared.Wrong.{Wrong}
use Rattle.aptime.specs.Lines.{Said, wrong}
use Rattle.aptime.specs.Printed.{Answered, Printed, too_long, faulty, answered}
use Rattle.aptime.specs.declared.Question.{Question}
use Rattle.aptime.proofs.report.Reads as report

-- a text says one thing
never : {s : Said} {k : ℕ} {fault : Fault} {q : Question} {samples : List ℕ} → s ≡ wrong k fault → s ≡ Ok (q, samples) → ⊥
never e e' = cc

-- what two answers print that are one
same_answer :
    {j j' : Result Judgement Refusal} {o o' : Outcome} {n n' : List ℕ} → j ≡ j' → o ≡ o' → n ≡ n' → answer_text j o n ≡ answer_text j' o' n'
same_answer e e' e'' = rw (e, e', e'') refl

-- what two faults print that are one
same_wrong : {k k' : ℕ} {fault fault' : Fault} → wrong k fault ≡ wrong k' fault' → wrong_text k fault ≡ wrong_text k' fault'
same_wrong {k} {k'} {fault} {fault'} e =
    let same : ◌≡◌ {A = Wrong} (record { line = k; fault = fault }) (record { line = k'; fault = fault' }) = cc in
    ap (λ (w : Wrong). wrong_text w.line w.fault) same

answered_once : {q : Question} {samples out out' : List ℕ} → Answered q samples out → Answered q samples out' → out ≡ out'
answered_once {q} {samples} a a' =
    let normal = normalised_once q.numbers a.normalised a'.normalised in
    a.printed ∙ same_answer (judged_once q.numbers samples q.asked a.judged a'.judged) normal.0 normal.1 ∙ sym a'.printed

told_once :
    {q q' : Question} {samples samples' out out' : List ℕ} → ◌≡◌ {A = Said} (Ok (q, samples)) (Ok (q', samples')) → Answered q samples out
    → Answered q' samples' out'
    → out ≡ out'
told_once {q} {q'} {samples} {samples'} {out} {out'} e a a' =
    let same : ◌≡◌ {A = Question × List ℕ} (q, samples) (q', samples') = cc in
    let question = ap (λ (p : Question × List ℕ). p.0) same in
    let history = ap (λ (p : Question × List ℕ). p.1) same in
    answered_once
    (subst (λ (s : List ℕ). Answered q' s out) history (subst (λ (t : Question). Answered t samples out) question a)) a'

pub printed_once : {input out out' : List ℕ} → Printed input out → Printed input out' → out ≡ out'
printed_once (too_long l e) (too_long l' e') = e ∙ sym e'
printed_once (too_long l e) (faulty l' s' e') = absurd (omega arith)
printed_once (too_long l e) (answered l' s' a') = absurd (omega arith)
printed_once (faulty l s e) (too_long l' e') = absurd (omega arith)
printed_once (faulty l s e) (faulty l' s' e') = e ∙ same_wrong (sym s ∙ s') ∙ sym e'
printed_once (faulty l s e) (answered l' s' a') = absurd (never s s')
printed_once (answered l s a) (too_long l' e') = absurd (omega arith)
printed_once (answered l s a) (faulty l' s' e') = absurd (never s' s)
printed_once (answered l s a) (answered l' s' a') = told_once (sym s ∙ s') a a'

pub report_once :
    (κs : Lfts 1) (a : _) (z z' : _) (e e' : _) → report.Post κs a z e → report.Post κs a z' e' → z.items ≡ z'.items
report_once κs a z z' e e' h h' = printed_once h h'
