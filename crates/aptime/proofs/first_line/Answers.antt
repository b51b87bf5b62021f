-- `first_line` meets its contract: the first newline ends the first line. Assumes nothing.
use Rattle.std.proofs.Common.{◌≡◌, ◌+◌, ◌∙◌, ◌∷◌, ℕ, List, take, ap, true, false, sym, rules, tests}
use Rattle.std.proofs.lemmas.Iterator.{IsFirst-from_position, YieldsList-from_slice}
use borrow.Author.Rules.{part_to_end}
use Rattle.aptime.specs.Lines.{lines}
use Rattle.aptime.proofs.Splitting.{in_line, no_line, to_newline, to_end}
use Rattle.aptime.proofs.first_line.Goals as goal

pub returns-then-is_empty-clause-lines : goal.returns-then-is_empty-clause-lines
returns-then-is_empty-clause-lines c = no_line c.args.text.now (sym c.if-is_empty.ensures)

pub returns-in-Some-clause-lines : goal.returns-in-Some-clause-lines
returns-in-Some-clause-lines c =
    let s = c.args.text.now in
    let newline = IsFirst-from_position _ _ c.position.result (λ b. in_line b ≡ false) (λ b. in_line b ≡ true) c.position.ensures.ran
    (YieldsList-from_slice s cc) (λ x q k. search (rules, tests)) (λ x q k. search (rules, tests)) in
    let l = to_newline s c.position.result c.in-Some.k (sym c.if-is_empty.ensures) newline c.in-Some.is in
    l ∙ ap (λ (x : List ℕ). take c.in-Some.k s ∷ lines x) (sym (part_to_end s (c.in-Some.k + 1)))

pub returns-in-None-clause-lines : goal.returns-in-None-clause-lines
returns-in-None-clause-lines c =
    let s = c.args.text.now in
    let newline = IsFirst-from_position _ _ c.position.result (λ b. in_line b ≡ false) (λ b. in_line b ≡ true) c.position.ensures.ran
    (YieldsList-from_slice s cc) (λ x q k. search (rules, tests)) (λ x q k. search (rules, tests)) in
    to_end s c.position.result (sym c.if-is_empty.ensures) newline c.in-None.is
