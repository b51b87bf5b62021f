-- `Plans::check` meets its contract: each search finds the lowest plan that breaks its rule; then 22 and 9. Assumes nothing.
use Rattle.std.proofs.Common.{sym, ◌∙◌}
use Rattle.table.proofs.Reading.{found_is, plans_undefined, plans_unfit, plans_waits}
use Rattle.table.proofs.Plans.check.Goals as goal

pub returns-in-Some : goal.returns-in-Some
returns-in-Some c =
    let t = c.args.self.now.table.now in
    sym (plans_undefined t _ (found_is t _ c.args.self.now.known.whole _ _ c.lowest_undefined.ensures ∙ c.in-Some.is))

-- check 7 has found nothing, and then check 8
pub returns-in-Some-lowest_unfit : goal.returns-in-Some-lowest_unfit
returns-in-Some-lowest_unfit c =
    let t = c.args.self.now.table.now in
    let defined = found_is t _ c.args.self.now.known.whole _ _ c.lowest_undefined.ensures ∙ c.in_default.is in
    sym (plans_unfit t defined _ (found_is t _ c.args.self.now.known.whole _ _ c.lowest_unfit.ensures ∙ c.in-Some-lowest_unfit.is))

pub returns : goal.returns
returns c =
    let t = c.args.self.now.table.now in
    let defined = found_is t _ c.args.self.now.known.whole _ _ c.lowest_undefined.ensures ∙ c.in_default.is in
    let fit = found_is t _ c.args.self.now.known.whole _ _ c.lowest_unfit.ensures ∙ c.in_default-lowest_unfit.is in
    c.check_waits.ensures ∙ sym (plans_waits _ defined fit)
