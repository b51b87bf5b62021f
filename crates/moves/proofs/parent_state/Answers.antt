-- `parent_state` meets its contract: the root, and a child by its parent's byte. Assumes nothing.
use Rattle.std.proofs.Common.{◌∙◌, arith}
use Rattle.moves.proofs.Moves.{parent_of_child}
use Rattle.moves.proofs.parent_state.Goals as goal

pub returns : goal.returns
returns c = c.from_byte.ensures ∙ parent_of_child _ _ _ _ (omega (arith, c.if-p-eq0.false)) c.parent_at-q.ensures
