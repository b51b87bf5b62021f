-- `rest` meets its contract: the checks, and where they pass the run. Assumes nothing.
use Rattle.std.proofs.Common.{◌≡◌, Err, rules, sym, ◌∙◌, arith}
use Rattle.table.proofs.Reading.{room_for_all}
use Rattle.demands.proofs.PassedCall.{lengths, words_in}
use Rattle.lent.proofs.Calls.{may_move}
use Rattle.step.proofs.Rests.{run_refused, run_done}
use Rattle.step.proofs.rest.Goals as goal

pub check_call-requires : goal.check_call-requires
check_call-requires c = room_for_all _ _ _ _ (omega arith) (omega arith) (omega arith)

pub settle-requires-clause-moves : goal.settle-requires-clause-moves
settle-requires-clause-moves c =
    let facts = c.check_call.ensures.facts c.in_ok-check_call.was in
    may_move _ _ _ _ _ _ _ _ (sym c.check_call.ensures.is ∙ c.in_ok-check_call.was) facts (omega (arith, facts.small))
    (omega (arith, facts.small))

pub settle-requires-clause-words : goal.settle-requires-clause-words
settle-requires-clause-words c = words_in _ _ _ _ _ (sym c.check_call.ensures.is ∙ c.in_ok-check_call.was)

pub settle-requires-clause-told : goal.settle-requires-clause-told
settle-requires-clause-told c =
    let long = lengths _ _ _ _ _ (sym c.check_call.ensures.is ∙ c.in_ok-check_call.was) in
    long.2 ∙ sym long.0

pub returns-in_err-check_call-clause-answer : goal.returns-in_err-check_call-clause-answer
returns-in_err-check_call-clause-answer c =
    let is : c.from_residual.result ≡ Err c.in_err-check_call.field-0.0 = search rules in
    rw is (run_refused _ _ _ _ _ _ _ (sym c.check_call.ensures.is ∙ c.in_err-check_call.was)).0

pub returns-in_err-check_call-clause-left : goal.returns-in_err-check_call-clause-left
returns-in_err-check_call-clause-left c = (run_refused _ _ _ _ _ _ _ (sym c.check_call.ensures.is ∙ c.in_err-check_call.was)).1

pub returns-in_err-check_call-clause-told : goal.returns-in_err-check_call-clause-told
returns-in_err-check_call-clause-told c = (run_refused _ _ _ _ _ _ _ (sym c.check_call.ensures.is ∙ c.in_err-check_call.was)).2

pub returns-clause-answer : goal.returns-clause-answer
returns-clause-answer c =
    (run_done _ _ _ _ _ _ _ _ _ (sym c.check_call.ensures.is ∙ c.in_ok-check_call.was) c.settle.ensures).0

pub returns-clause-left : goal.returns-clause-left
returns-clause-left c =
    (run_done _ _ _ _ _ _ _ _ _ (sym c.check_call.ensures.is ∙ c.in_ok-check_call.was) c.settle.ensures).1

pub returns-clause-told : goal.returns-clause-told
returns-clause-told c =
    (run_done _ _ _ _ _ _ _ _ _ (sym c.check_call.ensures.is ∙ c.in_ok-check_call.was) c.settle.ensures).2
