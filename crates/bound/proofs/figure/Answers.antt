-- `figure` meets its contract: the search decides. Assumes nothing.
use Rattle.std.proofs.Common.{sym, ap, ◌∙◌, arith}
use mathlib.Core.Bool.{not}
use Rattle.bound.proofs.Answers.{premises_are, told_figure, told_none}
use Rattle.bound.proofs.figure.Goals as goal

pub returns-then-some_break : goal.returns-then-some_break
returns-then-some_break c =
    told_none _ _ (premises_are _ _ _ c.requires.whole ∙ ap not (sym c.some_break.ensures ∙ c.if-some_break.true))

pub returns : goal.returns
returns c =
    let whole = c.requires.whole in
    told_figure _ _ _ (omega (arith, whole)) (premises_are _ _ _ whole ∙ ap not (sym c.some_break.ensures ∙ c.if-some_break.false))
