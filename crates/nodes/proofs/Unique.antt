-- One answer: any two that the contract of the public function permits are equal, the contract being as Rattle reads it. Assumes nothing.
use Rattle.rules.proofs.Unique.{OneAnswer, by_equation}
use Rattle.nodes.proofs.check_formulas.Reads as check_formulas

pub check_formulas_once : OneAnswer check_formulas.Post
check_formulas_once = by_equation
