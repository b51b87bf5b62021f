-- `is_bad_word` meets its contract: check 12 of the plan's entry, number of children and word. Assumes nothing.
use Rattle.std.proofs.Common.{sym, ◌∙◌}
use Rattle.lent.proofs.Calls.{word_tested}
use Rattle.lent.proofs.is_bad_word.Goals as goal

pub returns : goal.returns
returns c =
    c.wrong_word.ensures ∙ sym (word_tested _ _ _ _ c.requires.0 _ c.requires.1 _ _ c.entry_at.ensures c.word_at.ensures)
