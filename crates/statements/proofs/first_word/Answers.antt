-- `first_word` meets its contract: the word, and the rest behind it. Assumes nothing.
use Rattle.std.proofs.Common.{sym, ◌≡◌, true, false, ◌∙◌, rules, tests}
use Rattle.std.proofs.lemmas.Iterator.{IsFirst-from_position, YieldsList-from_slice}
use Rattle.std.specs.List.{prefix_len}
use Rattle.statements.specs.Words.{in_word, word, after}
use Rattle.statements.proofs.Scanning.{stretch}
use Rattle.statements.proofs.first_word.Goals as goal

pub returns : goal.returns
unfolding word after
returns c =
    let t = c.trimmed-t.result.now in
    let first = IsFirst-from_position _ _ c.position.result (λ b. in_word b ≡ false) (λ b. in_word b ≡ true) c.position.ensures.ran
    (YieldsList-from_slice t cc) (λ x q k. search (rules, tests)) (λ x q k. search (rules, tests)) in
    let place : c.unwrap_or-k.result ≡ prefix_len in_word t = c.unwrap_or-k.ensures ∙ sym (stretch in_word t c.position.result first) in
    (simp (c.split_at.ensures.front, place, c.trimmed-t.ensures), simp (c.split_at.ensures.back, place, c.trimmed-t.ensures))
