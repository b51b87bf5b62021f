-- `report` meets its contract: the bytes are those of the response, behind none. Assumes nothing.
use Rattle.aptime.proofs.report.Goals as goal

pub returns : goal.returns
returns c = rw (c.put.ensures, c.new-out.ensures) c.respond.ensures
