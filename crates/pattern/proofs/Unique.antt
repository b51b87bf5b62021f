-- One answer: any two that the contract of `judge` or `normalise` permits are equal, and so is what `normalise` leaves of the annotation.
-- The contract is taken as Rattle reads it. Assumes nothing.
use Rattle.rules.proofs.Unique.{OneAnswer, OneAnswerLeaving}
use Rattle.time.proofs.Unique.{judged_once, normalised_once}
use Rattle.pattern.proofs.judge.Reads as judge
use Rattle.pattern.proofs.normalise.Reads as normalise

pub judge_once : OneAnswer judge.Post
judge_once = record { once = λ κs a z z' e e' h h'. judged_once _ _ _ h h' }

pub normalise_once : OneAnswerLeaving normalise.Post (λ e. e.0.now)
normalise_once κs a z z' e e' h h' = normalised_once _ h h'
