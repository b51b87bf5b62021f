-- One answer: any two that the contract of `check_call`, `check_words`, `wrong_word_if` or `unused_bits` permits are equal, and so is what
-- the buffers of a call that passes then hold of the table's plans. The contract is taken as Rattle reads it. Assumes nothing.
use mathlib.Core.Path.{◌≡◌, ◌∙◌}
use contract.Lifetimes.{Lfts}
use Rattle.rules.specs.Answers.{call_check, Outcome, Done}
use Rattle.rules.proofs.Unique.{one_answer, OneAnswer, by_equation}
use Rattle.table.proofs.Unique.{SameFacts, facts_once}
use Rattle.lent.proofs.check_call.Reads as check_call
use Rattle.lent.proofs.check_words.Reads as check_words
use Rattle.lent.proofs.unused_bits.Reads as unused_bits
use Rattle.lent.proofs.wrong_word_if.Reads as wrong_word_if

pub words_once : OneAnswer check_words.Post × OneAnswer wrong_word_if.Post × OneAnswer unused_bits.Post
words_once = (by_equation, by_equation, by_equation)

pub check_call_once : OneAnswer check_call.Post
check_call_once = record { once = λ κs a z z' e e' h h'. one_answer h.is h'.is }

pub check_call_facts_once :
    (κs : Lfts 7) (a : _) (z z' : Outcome) (e e' : _) → check_call.Post κs a z e → check_call.Post κs a z' e'
    → call_check a.0 a.1.0.now a.1.1.0.now a.1.1.1.0.now a.1.1.1.1.0.now ≡ Done
    → SameFacts a.1.0.now e.1.1.1.1.1.0.now e.1.1.1.1.1.1.0.now e.1.1.1.1.1.1.1.0.now
    e'.1.1.1.1.1.0.now e'.1.1.1.1.1.1.0.now e'.1.1.1.1.1.1.1.0.now
check_call_facts_once κs a z z' e e' h h' d = facts_once _ _ _ _ _ _ _ (h.facts (h.is ∙ d)) (h'.facts (h'.is ∙ d))
