-- One answer: any two that the contract of `bound` permits are equal, the contract being as Rattle reads it. Assumes nothing.
use Rattle.rules.proofs.Unique.{one_answer, OneAnswer}
use Rattle.bound.proofs.bound.Reads as bound

pub bound_once : OneAnswer bound.Post
bound_once = record { once = λ κs a z z' e e' h h'. one_answer h.0 h'.0 }
