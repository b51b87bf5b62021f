-- One answer: any two that the contract of a public function permits are equal, here in what they leave in the vector or in the slice, the
-- contract being as Rattle reads it. Assumes nothing.
use mathlib.Core.Path.{◌≡◌}
use Rattle.rules.proofs.Unique.{one_answer, OneAnswerLeaving}
use Rattle.output.proofs.Unique.{appended_once}
use Rattle.printing.proofs.Wrong.put.Reads as wrong
use Rattle.printing.proofs.Answer.put.Reads as answer
use Rattle.printing.proofs.in_slice.put_wrong.Reads as slice_wrong
use Rattle.printing.proofs.in_slice.put_answer.Reads as slice_answer

pub wrong_once :
    (g n κs : _) (a : _) (z z' : _) (e e' : _) → wrong.Post g n κs a z e → wrong.Post g n κs a z' e'
    → e.1.0.now.items ≡ e'.1.0.now.items
wrong_once g n κs a z z' e e' h h' = one_answer h.0 h'.0

pub answer_once :
    (g n κs : _) (a : _) (z z' : _) (e e' : _) → answer.Post g n κs a z e → answer.Post g n κs a z' e'
    → e.1.0.now.items ≡ e'.1.0.now.items
answer_once g n κs a z z' e e' h h' = one_answer h.0 h'.0

pub slice_wrong_once : OneAnswerLeaving slice_wrong.Post (λ e. e.1.1.0.now)
slice_wrong_once κs a z z' e e' h h' = appended_once h.1 h'.1

pub slice_answer_once : OneAnswerLeaving slice_answer.Post (λ e. e.1.1.1.0.now)
slice_answer_once κs a z z' e e' h h' = appended_once h.1 h'.1
