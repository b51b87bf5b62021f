-- One answer: any two that the contract of `says` permits are equal. The contract is taken as Rattle reads it. Assumes nothing.
use Rattle.rules.proofs.Unique.{OneAnswer, by_equation}
use Rattle.statements.proofs.says.Reads as says

pub says_once : OneAnswer says.Post
says_once = by_equation
