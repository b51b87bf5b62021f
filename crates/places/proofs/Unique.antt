-- One answer: any two that the contract of `place` permits are equal, the contract being as Rattle reads it. Assumes nothing.
use Rattle.rules.proofs.Unique.{OneAnswer, by_equation}
use Rattle.places.proofs.place.Reads as placed

pub place_once : OneAnswer placed.Post
place_once = by_equation
