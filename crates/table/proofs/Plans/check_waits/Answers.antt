-- `Plans::check_waits` meets its contract: of version 2 the formulas are checked, of version 1 the wait numbers. Assumes nothing.
use Rattle.std.proofs.Common.{◌≡◌, true, sym, ◌∙◌}
use Rattle.rules.specs.WaitFor.{first_version}
use Rattle.lowest.proofs.Lowest.{lowest_as}
use Rattle.table.proofs.Reading.{found_is, waits_by_number, waits_wait, waits_done}
use Rattle.table.proofs.Plans.check_waits.Goals as goal

-- version 1: what the search for a wait number found
pub returns-in-Some : goal.returns-in-Some
returns-in-Some c =
    let t = c.args.self.now.table.now in
    let first : first_version t ≡ true = sym c.is_first_version.ensures ∙ c.if-not-is_first_version.false in
    let found = lowest_as _ _ _ _ (waits_by_number t first) c.lowest_asking.ensures in
    sym (waits_wait t first _ (found_is t _ c.args.self.now.known.whole _ _ found ∙ c.in-Some.is))

pub returns : goal.returns
returns c =
    let t = c.args.self.now.table.now in
    let first : first_version t ≡ true = sym c.is_first_version.ensures ∙ c.if-not-is_first_version.false in
    let found = lowest_as _ _ _ _ (waits_by_number t first) c.lowest_asking.ensures in
    sym (waits_done t first (found_is t _ c.args.self.now.known.whole _ _ found ∙ c.in_default.is))
