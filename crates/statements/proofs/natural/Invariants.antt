-- `natural` meets its contract: digit by digit. Assumes nothing.
use Rattle.std.proofs.Common.{◌≡◌, ◌^◌, ◌<◌, drop}
use Rattle.statements.specs.Words.{natural}
use Rattle.statements.proofs.natural.Given as goal

abbrev pub invariant-loop-b : goal.invariant-loop-b
invariant-loop-b l = (l.v < 10 ^ l.b-index) × (natural 0 l.s ≡ natural l.v (drop l.b-index l.s))
