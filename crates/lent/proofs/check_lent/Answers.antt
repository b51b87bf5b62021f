-- `check_lent` meets its contract: where each check stops. Assumes nothing.
use Rattle.std.proofs.Common.{sym, ◌∙◌, arith}
use Rattle.rules.proofs.Tree.{passes, tree}
use Rattle.lent.proofs.Calls.{stops_at_lengths, agreed, stops_at_state, only_words, rooted, counted}
use Rattle.lent.proofs.check_lent.Goals as goal

pub plan_count-n-requires : goal.plan_count-n-requires
plan_count-n-requires c = omega (arith, (passes _ c.requires.done).long)

pub returns-then-states-n : goal.returns-then-states-n
returns-then-states-n c = sym (stops_at_lengths _ _ _ _ _ c.plan_count-n.ensures c.if-states-n.true)

pub lowest_bad_state-requires : goal.lowest_bad_state-requires
lowest_bad_state-requires c =
    let done = c.requires.done in
    let whole = c.plan_count-n.ensures in
    let long = agreed c.args.table.now c.args.states.now c.args.words.now c.args.causes.now _ whole c.if-states-n.false in
    record {
      rooted = rooted _ done _ whole;
      whole = whole;
      some = omega (arith, whole, (tree _ (passes _ done)).some);
      states_room = omega (arith, long.0);
    }

pub returns-in-Some : goal.returns-in-Some
returns-in-Some c = sym (stops_at_state _ _ _ _ _ c.plan_count-n.ensures c.if-states-n.false _ c.in-Some.ensures)

pub check_words-requires : goal.check_words-requires
check_words-requires c =
    let whole = c.plan_count-n.ensures in
    let long = agreed c.args.table.now c.args.states.now c.args.words.now c.args.causes.now _ whole c.if-states-n.false in
    counted _ _ _ c.requires _ whole long.1

pub returns : goal.returns
returns c =
    c.check_words.ensures
    ∙ sym (only_words _ _ _ _ _ c.plan_count-n.ensures c.if-states-n.false c.in_default.ensures)
