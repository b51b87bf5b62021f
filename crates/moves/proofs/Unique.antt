-- One answer: any two states that the contract of `next_state` permits are equal, and any two causes that that of `cause` does, the
-- contract being as Rattle reads it. Assumes nothing.
use Rattle.rules.proofs.Unique.{OneAnswer, by_equation}
use Rattle.moves.proofs.cause.Reads as cause
use Rattle.moves.proofs.next_state.Reads as next_state

pub next_state_once : OneAnswer next_state.Post
next_state_once = by_equation

pub cause_once : OneAnswer cause.Post
cause_once = by_equation
