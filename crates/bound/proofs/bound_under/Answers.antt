-- `bound_under` meets its contract: where each check of the words stops, and the figure behind them. Assumes nothing.
use Rattle.std.proofs.Common.{sym, ap, ◌∙◌, arith}
use Rattle.std.specs.Prelude.{Ok}
use Rattle.std.proofs.lemmas.Result.{err_from_is_err_and}
use Rattle.rules.proofs.Tree.{passes, tree}
use Rattle.lent.proofs.Calls.{rooted, counted}
use Rattle.bound.proofs.Answers.{length_refused, words_refused, figure_told}
use Rattle.bound.proofs.bound_under.Goals as goal

pub plan_count-n-requires : goal.plan_count-n-requires
plan_count-n-requires c = omega (arith, (passes _ c.requires.done).long)

pub overflow_mul-n : goal.overflow_mul-n
overflow_mul-n c = omega (arith, c.plan_count-n.ensures, (tree _ (passes _ c.requires.done)).small)

pub returns-then-words-n : goal.returns-then-words-n
returns-then-words-n c = sym (length_refused _ _ c.requires.done _ c.plan_count-n.ensures c.if-words-n.true)

pub check_words-requires : goal.check_words-requires
check_words-requires c = counted _ _ _ c.requires _ c.plan_count-n.ensures c.if-words-n.false

pub returns-in_err-check_words : goal.returns-in_err-check_words
returns-in_err-check_words c =
    let p = err_from_is_err_and c.from_residual.result c.from_residual.ensures.1 in
    rw (p.1, p.2)
    (sym (words_refused _ _ c.requires.done _ c.plan_count-n.ensures c.if-words-n.false _ (sym c.in_err-check_words.ensures)))

pub figure-requires : goal.figure-requires
figure-requires c =
    let shape = rooted _ c.requires.done _ c.plan_count-n.ensures in
    record {
      whole = c.plan_count-n.ensures;
      small = shape.small;
      room = shape.room;
      words_room = omega (arith, c.if-words-n.false);
    }

pub returns : goal.returns
returns c =
    ap Ok c.figure.ensures
    ∙ sym (figure_told _ _ c.requires.done _ c.plan_count-n.ensures c.if-words-n.false (sym c.in_ok-check_words.ensures))
