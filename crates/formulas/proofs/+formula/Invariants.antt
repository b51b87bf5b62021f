-- The recursion of `formula`: 256 minus the node number falls, since operands stand above their node.
use Rattle.std.proofs.Common.{◌-◌}
use Rattle.formulas.proofs.+formula.Given as goal

abbrev pub decreases-formula : goal.decreases-formula
decreases-formula l = 256 - l.i
