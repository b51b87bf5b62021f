-- `check_words` meets its contract: the lowest wrong word decides. Assumes nothing.
use Rattle.std.proofs.Common.{sym}
use Rattle.lent.proofs.Calls.{wrong_word_lem, right_words}
use Rattle.lent.proofs.check_words.Goals as goal

pub returns-in-Some : goal.returns-in-Some
returns-in-Some c = sym (wrong_word_lem _ _ _ c.requires.whole _ c.in-Some.ensures)

pub returns : goal.returns
returns c = sym (right_words _ _ _ c.requires.whole c.in_default.ensures)
