-- One answer: any two that the contract of `step` or of `rest` permits are equal, and so are the states and causes that they leave. The
-- contract is taken as Rattle reads it: `Post κs a z e`, of the lifetimes, the arguments, the answer and the parameters at exit, arguments
-- and parameters in the order of the declaration. Assumes nothing.
use Rattle.rules.proofs.Unique.{one_answer, OneAnswerLeavingTwo}
use Rattle.step.proofs.step.Reads as step
use Rattle.step.proofs.rest.Reads as rest

-- what a call leaves among its parameters at exit: states, then causes
pub step_once : OneAnswerLeavingTwo step.Post (λ e. e.1.1.0.now) (λ e. e.1.1.1.1.0.now)
step_once κs a z z' e e' h h' = (one_answer h.0 h'.0, one_answer h.1.0 h'.1.0, one_answer h.1.1 h'.1.1)

pub rest_once : OneAnswerLeavingTwo rest.Post (λ e. e.1.1.0.now) (λ e. e.1.1.1.1.0.now)
rest_once κs a z z' e e' h h' = (one_answer h.0 h'.0, one_answer h.1.0 h'.1.0, one_answer h.1.1 h'.1.1)
