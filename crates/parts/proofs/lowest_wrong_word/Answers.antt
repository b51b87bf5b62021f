-- `lowest_wrong_word` meets its contract: by what was asked of all words at once, and by the search. Assumes nothing.
use Rattle.std.proofs.Common.{sym, ◌∙◌, rules}
use Rattle.rules.proofs.Below.{none_true}
use Rattle.lowest.proofs.Lowest.{lowest_within}
use Rattle.lowest.proofs.Ranges.{lowest_from_find}
use Rattle.parts.specs.OneStep.{wrong_at}
use Rattle.parts.proofs.Words.{wrong_at_lem}
use Rattle.parts.proofs.lowest_wrong_word.Goals as goal

pub returns-then-not-any_wrong_word : goal.returns-then-not-any_wrong_word
returns-then-not-any_wrong_word c =
    let none = sym c.any_wrong_word.ensures ∙ c.if-not-any_wrong_word.true in
    λ k l. sym (wrong_at_lem _ _ _ _ c.requires.0 k l) ∙ none_true _ _ none k l

pub returns : goal.returns
returns c =
    lowest_within _ _ _ _ (λ k l. wrong_at_lem _ _ _ _ c.requires.0 k l)
    (lowest_from_find (wrong_at c.args.unused.now c.args.words.now) _ _ _ _ c.find.ensures.ran (λ x b q k. search rules))
