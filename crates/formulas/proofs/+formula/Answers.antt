-- `formula` meets its contract: what the node asks, its operands by the same contract. Assumes nothing.
use Rattle.std.proofs.Common.{sym, ap, ap₂, ◌∙◌, arith}
use mathlib.Core.Bool.{not}
use lib.Bits.{bit_and}
use lib.Count.{ones}
use lib.Dec.{leb}
use Rattle.rules.specs.Bytes.{is_set}
use Rattle.rules.specs.WaitFor.{asks, joined, operands}
use Rattle.formulas.proofs.Evaluated.{child_bit, named_ones, only_up, both_up, by_asked, says}
use Rattle.formulas.proofs.+formula.Goals as goal

pub returns-in-Child : goal.returns-in-Child
returns-in-Child t c q f k en es =
    let is = sym (c.asks.ensures ∙ ap asks c.node_at.ensures) ∙ c.in-Child.is in
    by_asked _ q _ f _ _ is (omega (arith, c.requires.1, c.requires.0.few))
    (λ j h. c.has_rank.ensures ∙ ap (is_set _) es ∙ child_bit _ q _ f) k

pub returns-in-Not : goal.returns-in-Not
returns-in-Not t c q f k en es =
    let is = sym (c.asks.ensures ∙ ap asks c.node_at.ensures) ∙ c.in-Not.is in
    let up = only_up _ c.requires.0 _ c.requires.1 _ (ap operands is) in
    by_asked _ q _ f _ _ is (omega (arith, c.requires.1, c.requires.0.few))
    (λ j h. ap not (says _ q _ _ f en es _ _ _ j _ c.formula.ensures c.from.ensures up.0 h)) k

pub returns-in-Join : goal.returns-in-Join
returns-in-Join t c q f k en es =
    let is = sym (c.asks.ensures ∙ ap asks c.node_at.ensures) ∙ c.in-Join.is in
    let up = both_up _ c.requires.0 _ c.requires.1 _ _ (ap operands is) in
    by_asked _ q _ f _ _ is (omega (arith, c.requires.1, c.requires.0.few))
    (λ j h.
    c.join.ensures
    ∙ ap₂ (joined c.in-Join.how)
    (says _ q _ _ f en es _ _ _ j _ c.formula-in-Join.ensures c.from-in-Join.ensures up.0.0 h)
    (says _ q _ _ f en es _ _ _ j _ c.formula-in-Join-2.ensures c.from-in-Join-2.ensures up.1.0 h)) k

pub returns-in-AtLeast : goal.returns-in-AtLeast
returns-in-AtLeast t c q f k en es =
    let is = sym (c.asks.ensures ∙ ap asks c.node_at.ensures) ∙ c.in-AtLeast.is in
    by_asked _ q _ f _ _ is (omega (arith, c.requires.1, c.requires.0.few))
    (λ j h. c.at_least.ensures ∙ ap₂ leb c.from-in-AtLeast.ensures (ap ones (ap₂ bit_and en es)) ∙ named_ones _ q _ f) k
