-- `all_ended` meets its contract: two children by their own rule, any others each by itself. Assumes nothing.
use Rattle.std.proofs.Common.{sym, ap, ◌∙◌}
use Rattle.rules.specs.Table.{of_two}
use Rattle.rules.specs.Step.{all_ended}
use Rattle.family.proofs.Children.all_ended.Goals as goal

pub returns-then-is_of_two : goal.returns-then-is_of_two
unfolding all_ended
returns-then-is_of_two c t s known eb =
    let two = ap of_two (sym eb) ∙ sym c.is_of_two.ensures ∙ c.if-is_of_two.true in
    rw two (c.both_ended.ensures t s known (known.two (rw two tt)) ∙ rw eb)

pub returns : goal.returns
unfolding all_ended
returns c t s known eb =
    let other = ap of_two (sym eb) ∙ sym c.is_of_two.ensures ∙ c.if-is_of_two.false in
    rw other (c.each_ended.ensures t s known)
