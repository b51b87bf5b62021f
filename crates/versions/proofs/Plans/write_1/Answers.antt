-- `Plans::write_1` meets its contract: header and plans. Assumes nothing.
use Rattle.std.proofs.Common.{ℕ, List, ◌++◌, ap, arith}
use Rattle.output.proofs.Pieces.{as_one}
use Rattle.versions.specs.Versions.{header_as, plans_as, number_waited, in_version1}
use Rattle.versions.proofs.Turns.{after_header}
use Rattle.versions.proofs.Plans.write_1.Goals as goal

pub returns : goal.returns
unfolding in_version1
returns c =
    let t : List ℕ = c.args.self.now.table.now in
    as_one (after_header t 1 _ (omega (arith, c.args.self.now.there.room)) c.put_header.ensures c.put_waiting.ensures)
    (ap (λ (n : ℕ). header_as t 1 ++ plans_as t (number_waited t) n) c.args.self.now.there.whole)
