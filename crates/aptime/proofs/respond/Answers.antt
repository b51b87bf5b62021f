-- `respond` meets its contract: what the text says is answered. Assumes nothing.
use Rattle.std.proofs.Common.{refl}
use Rattle.aptime.specs.Printed.{faulty, answered}
use Rattle.aptime.proofs.respond.Goals as goal

pub returns-in-Ok : goal.returns-in-Ok
returns-in-Ok c = answered c.if-input-gt65536.false c.in-Ok.ensures (rw c.deref.ensures.0 at c.answer.ensures)

pub returns-in-Err : goal.returns-in-Err
returns-in-Err c = faulty c.if-input-gt65536.false c.in-Err.ensures refl
