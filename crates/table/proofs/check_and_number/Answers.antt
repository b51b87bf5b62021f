-- `check_and_number` meets its contract: where the checks pass, the formulas can be asked. Assumes nothing.
use Rattle.std.proofs.Common.{sym, ◌∙◌}
use Rattle.formulas.proofs.Formed.{waiting}
use Rattle.table.proofs.Reading.{formulas_done}
use Rattle.table.proofs.check_and_number.Goals as goal

pub find_numbers-requires : goal.find_numbers-requires
find_numbers-requires c =
    let known = c.requires.known in
    let t = c.args.table.now in
    let passed = sym c.check.ensures ∙ c.in_ok-check.was in
    (waiting t _ known.whole known.small known.long (formulas_done t passed), c.requires.room)
