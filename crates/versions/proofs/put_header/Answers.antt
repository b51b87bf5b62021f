-- `put_header` meets its contract: three pieces, one behind the other. Assumes nothing.
use Rattle.output.proofs.Pieces.{and_then}
use Rattle.versions.proofs.put_header.Goals as goal

pub returns : goal.returns
returns c = and_then (and_then c.put-at.ensures c.put-at-2.ensures) c.put.ensures
