-- `bad_bytes` meets its contract. Assumes nothing.
use Rattle.rules.specs.Answers.{bad_bytes}
use Rattle.nodes.proofs.bad_bytes.Goals as goal

pub returns : goal.returns
unfolding bad_bytes
returns c = simp (c.lacks_second.ensures, c.asks.ensures)
