-- `put_satisfied` meets its contract: piece by piece. Assumes nothing.
use Rattle.std.proofs.Common.{append_assoc}
use Rattle.printing.proofs.put_satisfied.Goals as goal

pub returns-clause-items : goal.returns-clause-items
returns-clause-items g c =
    simp (c.put-3.ensures.items, c.put_minute-2.ensures.items, c.put-2.ensures.items, c.put_minute.ensures.items, c.put.ensures.items, append_assoc)
