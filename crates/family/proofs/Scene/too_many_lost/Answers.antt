-- `too_many_lost` meets its contract: a plan that waits for none loses none; else wait-for of the children that are not lost. Assumes nothing.
use Rattle.std.proofs.Common.{sym, ap, ◌∙◌}
use borrow.Author.Tests.{eqb-true}
use Rattle.rules.specs.Table.{retry_aborted}
use Rattle.formulas.proofs.Numbers.{none_waited}
use Rattle.family.proofs.ChildWords.{none_lost, lost_is}
use Rattle.family.proofs.Scene.too_many_lost.Goals as goal

pub returns-then-waits_for_none : goal.returns-then-waits_for_none
returns-then-waits_for_none c s known =
    let none = eqb-true _ _ (sym c.waits_for_none.ensures ∙ c.if-waits_for_none.true) in
    none_lost _ s _ c.args.self.now.rule (λ f. none_waited _ _ f (sym c.requires.waits.number ∙ none))

pub returns : goal.returns
returns c s known =
    let again = c.retries_aborted-again.ensures ∙ ap retry_aborted c.entry_at.ensures in
    let kept = rw (c.children.ensures.0, c.children.ensures.1) at c.not_lost-kept.ensures in
    lost_is c.args.self.now.rule again (kept _ s known) c.wait_for.ensures
