-- `check_call` meets its contract: the rule number's check, then the table's, then those of what is lent with it. Assumes nothing.
use Rattle.std.proofs.Common.{◌≡◌, Err, rules, sym, ap, ◌∙◌, not, arith}
use Rattle.rules.proofs.Outcomes.{rule_stops, rule_passes}
use Rattle.rules.proofs.Tree.{passes}
use Rattle.lent.proofs.Calls.{call_unruled, call_refused, call_lent}
use Rattle.lent.proofs.check_call.Goals as goal

pub returns-then-not-is_rule : goal.returns-then-not-is_rule
returns-then-not-is_rule c = call_unruled _ _ _ _ _ _ _ _ _ (rule_stops _ c.is_rule.ensures (ap not c.if-not-is_rule.true))

pub returns-in_err-read_table : goal.returns-in_err-read_table
returns-in_err-read_table c =
    let is : c.from_residual.result ≡ Err c.in_err-read_table.field-0.0 = search rules in
    let ruled = rule_passes _ c.is_rule.ensures (ap not c.if-not-is_rule.false) in
    rw is (call_refused _ _ _ _ _ _ _ _ ruled _ (sym c.read_table.ensures.is ∙ c.in_err-read_table.was))

pub check_lent-requires : goal.check_lent-requires
check_lent-requires c =
    let facts = c.read_table.ensures.facts c.in_ok-read_table.was in
    let done = sym c.read_table.ensures.is ∙ c.in_ok-read_table.was in
    record {
      done = done;
      room = omega (arith, c.requires.counts_room (passes _ done).header);
      counted = facts.counted;
    }

pub returns : goal.returns
returns c =
    let ruled = rule_passes _ c.is_rule.ensures (ap not c.if-not-is_rule.false) in
    let done = sym c.read_table.ensures.is ∙ c.in_ok-read_table.was in
    call_lent _ _ _ _ _ _ _ _ ruled _ done (c.read_table.ensures.facts c.in_ok-read_table.was) c.check_lent.ensures
