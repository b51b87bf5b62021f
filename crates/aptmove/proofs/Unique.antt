-- One answer: any two that the contract of `report` permits have the same bytes for standard output and for standard error, the contract
-- being as Rattle reads it. Assumes nothing.
use mathlib.Core.Path.{◌≡◌}
use contract.Lifetimes.{Lfts}
use Rattle.rules.proofs.Unique.{one_answer}
use Rattle.aptmove.specs.Moving.{on_output, on_error}
use Rattle.aptmove.proofs.report.Reads as report

pub report_once :
    (κs : Lfts 2) (a : _) (z z' : _) (e e' : _) → report.Post κs a z e → report.Post κs a z' e'
    → (on_output z e.1.0.now ≡ on_output z' e'.1.0.now) × (on_error z ≡ on_error z')
report_once κs a z z' e e' h h' = (one_answer h.1.0 h'.1.0, one_answer h.1.1 h'.1.1)
