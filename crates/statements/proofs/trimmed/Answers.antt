-- `trimmed` meets its contract: what follows the blanks. Assumes nothing.
use Rattle.std.proofs.Common.{sym, ◌≡◌, true, false, ap, ◌∙◌, rules, tests, drop, ℕ}
use Rattle.std.proofs.lemmas.Iterator.{IsFirst-from_position, YieldsList-from_slice}
use borrow.Author.Rules.{part_to_end}
use Rattle.statements.specs.Words.{is_blank, trimmed}
use Rattle.statements.proofs.Scanning.{stretch}
use Rattle.statements.proofs.trimmed.Goals as goal

pub returns : goal.returns
unfolding trimmed
returns c =
    let s = c.args.s.now in
    let first = IsFirst-from_position _ _ c.position.result (λ b. is_blank b ≡ false) (λ b. is_blank b ≡ true) c.position.ensures.ran
    (YieldsList-from_slice s cc) (λ x q k. search (rules, tests)) (λ x q k. search (rules, tests)) in
    part_to_end s _ ∙ ap (λ (k : ℕ). drop k s) (c.unwrap_or-k.ensures ∙ sym (stretch is_blank s c.position.result first))
