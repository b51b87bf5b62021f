-- One answer: any two that the contract of a public function permits are equal, here in what they leave in the vector or in the slice, the
-- contract being as Rattle reads it. Assumes nothing.
use mathlib.Core.Path.{◌≡◌}
use Rattle.rules.proofs.Unique.{one_answer, OneAnswerLeaving}
use Rattle.output.proofs.Unique.{appended_once}
use Rattle.text.proofs.put.Reads as put
use Rattle.text.proofs.put_decimal.Reads as put_decimal
use Rattle.text.proofs.put_refusal.Reads as put_refusal
use Rattle.text.proofs.in_slice.put_refusal.Reads as slice_refusal
use Rattle.text.proofs.in_slice.put_number.Reads as slice_number
use Rattle.text.proofs.in_slice.put_decimal.Reads as slice_decimal

pub put_once :
    (g n κs : _) (a : _) (z z' : _) (e e' : _) → put.Post g n κs a z e → put.Post g n κs a z' e'
    → e.1.0.now.items ≡ e'.1.0.now.items
put_once g n κs a z z' e e' h h' = one_answer h.0 h'.0

pub put_decimal_once :
    (g n κs : _) (a : _) (z z' : _) (e e' : _) → put_decimal.Post g n κs a z e → put_decimal.Post g n κs a z' e'
    → e.1.0.now.items ≡ e'.1.0.now.items
put_decimal_once g n κs a z z' e e' h h' = one_answer h.0 h'.0

pub put_refusal_once :
    (g n κs : _) (a : _) (z z' : _) (e e' : _) → put_refusal.Post g n κs a z e → put_refusal.Post g n κs a z' e'
    → e.1.0.now.items ≡ e'.1.0.now.items
put_refusal_once g n κs a z z' e e' h h' = one_answer h.0 h'.0

pub slice_refusal_once : OneAnswerLeaving slice_refusal.Post (λ e. e.1.0.now)
slice_refusal_once κs a z z' e e' h h' = appended_once h.1 h'.1

pub slice_number_once : OneAnswerLeaving slice_number.Post (λ e. e.1.1.0.now)
slice_number_once κs a z z' e e' h h' = appended_once h.1 h'.1

pub slice_decimal_once : OneAnswerLeaving slice_decimal.Post (λ e. e.1.0.now)
slice_decimal_once κs a z z' e e' h h' = appended_once h.1 h'.1
