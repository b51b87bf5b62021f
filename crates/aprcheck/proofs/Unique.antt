-- One answer: any two lines that the contract of `report` permits have the same bytes, and any two verdicts that the contract of `answer`
-- permits are equal, the contract being as Rattle reads it. Assumes nothing.
use mathlib.Core.Path.{◌≡◌}
use contract.Lifetimes.{Lfts}
use Rattle.rules.proofs.Unique.{OneAnswer}
use Rattle.demands.proofs.Unique.{answered_once, printed_once}
use Rattle.aprcheck.proofs.answer.Reads as answer
use Rattle.aprcheck.proofs.report.Reads as report

pub answer_once : OneAnswer answer.Post
answer_once = record { once = λ κs a z z' e e' h h'. answered_once a.0.now h h' }

pub report_once :
    (κs : Lfts 1) (a : _) (z z' : _) (e e' : _) → report.Post κs a z e → report.Post κs a z' e' → z.items ≡ z'.items
report_once κs a z z' e e' h h' = printed_once a.0.now _ _ h h'
