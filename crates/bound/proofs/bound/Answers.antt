-- `bound` meets its contract: the table's checks, then those of the words; and what is answered is kept. Assumes nothing.
use Rattle.std.proofs.Common.{◌≡◌, refl, sym, ◌∙◌, arith}
use Rattle.std.proofs.lemmas.Result.{err_from_is_err_and}
use Rattle.table.proofs.Reading.{room_for_all}
use Rattle.demands.specs.Bound.{bound_answer}
use Rattle.demands.proofs.RestsWithin.{bound_kept}
use Rattle.bound.proofs.Answers.{table_refused}
use Rattle.bound.proofs.bound.Goals as goal

pub read_table-requires : goal.read_table-requires
read_table-requires c = room_for_all _ _ _ _ (omega arith) (omega arith) (omega arith)

pub bound_under-requires : goal.bound_under-requires
bound_under-requires c =
    let read = c.in_ok-read_table.ensures in
    let facts = read.facts refl in
    record { done = sym read.is; room = omega (arith, facts.small); counted = facts.counted }

pub returns-in_err-read_table : goal.returns-in_err-read_table
returns-in_err-read_table c =
    let p = err_from_is_err_and c.from_residual.result c.from_residual.ensures.1 in
    let answer : c.from_residual.result ≡ bound_answer c.args.table.now c.args.words.now =
    rw (p.1, p.2) (sym (table_refused _ _ _ (sym c.in_err-read_table.ensures.is)))
    in
    record { answer = answer; promise = λ k e. bound_kept _ _ k (sym answer ∙ e) }

pub returns : goal.returns
returns c =
    let answer = c.bound_under.ensures in
    record { answer = answer; promise = λ k e. bound_kept _ _ k (sym answer ∙ e) }
