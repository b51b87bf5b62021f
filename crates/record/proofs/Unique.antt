-- One answer: any two verdicts that the contract of `check` permits are equal, the contract being as Rattle reads it. Assumes nothing.
use Rattle.rules.proofs.Unique.{OneAnswer}
use Rattle.demands.proofs.Unique.{judged_once}
use Rattle.record.proofs.check.Reads as check

pub check_once : OneAnswer check.Post
check_once = record { once = λ κs a z z' e e' h h'. judged_once a.0 a.1.0.now a.1.1.0.now h h' }
