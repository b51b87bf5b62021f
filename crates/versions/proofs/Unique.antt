-- One answer: any two that the contract of a move permits are equal, and so is what they leave in the output. The contract is taken as
-- Rattle reads it: `Post κs a z e`, of the lifetimes, the arguments, the answer and the parameters at exit. Assumes nothing.
use Rattle.rules.proofs.Unique.{one_answer, OneAnswerLeaving}
use Rattle.versions.proofs.to_version_1.Reads as to_version_1
use Rattle.versions.proofs.to_version_2.Reads as to_version_2

pub to_version_2_once : OneAnswerLeaving to_version_2.Post (λ e. e.1.0.now)
to_version_2_once κs a z z' e e' h h' = (one_answer h.0 h'.0, one_answer h.1 h'.1)

pub to_version_1_once : OneAnswerLeaving to_version_1.Post (λ e. e.1.0.now)
to_version_1_once κs a z z' e e' h h' = (one_answer h.0 h'.0, one_answer h.1 h'.1)
