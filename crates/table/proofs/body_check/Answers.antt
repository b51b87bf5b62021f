-- `body_check` meets its contract: where each check stops, and what is known once all have passed. Assumes nothing.
use Rattle.std.proofs.Common.{◌≡◌, true, length, sym, ◌∙◌, arith}
use borrow.Author.Tests.{eq-eqb, ne_eqb}
use lib.Dec.{eqb}
use Rattle.rules.specs.WaitFor.{table_size}
use Rattle.rules.proofs.Tree.{header}
use Rattle.formulas.proofs.Formed.{plans_within}
use Rattle.table.proofs.Reading.{
  found_is,
  stops_at_length,
  stops_at_parent,
  going_on,
  refused_checked,
  known,
  facts,
}
use Rattle.table.proofs.body_check.Goals as goal

pub plan_count-n-requires : goal.plan_count-n-requires
plan_count-n-requires c = (header _ c.requires.header).room

pub returns-then-table-table_size : goal.returns-then-table-table_size
returns-then-table-table_size c =
    refused_checked _ _ _ _ _
    (stops_at_length c.args.table.now c.requires.header
    (ne_eqb _ _ (λ e. c.if-table-table_size.true (e ∙ sym c.table_size.ensures))))

-- the number of plans is the header's, and in its range; the table ends where it should
pub lowest_bad_parent-requires-clause-table : goal.lowest_bad_parent-requires-clause-table
lowest_bad_parent-requires-clause-table c =
    let t = c.args.table.now in
    let h = header _ c.requires.header in
    let long = c.if-table-table_size.false ∙ c.table_size.ensures in
    let whole = c.plan_count-n.ensures in
    (omega (arith, h.some, whole), omega (arith, h.small, whole), omega (arith, plans_within t long, whole))

pub returns-in-Some : goal.returns-in-Some
returns-in-Some c =
    let t = c.args.table.now in
    let long : length t ≡ table_size t = c.if-table-table_size.false ∙ c.table_size.ensures in
    let ends : eqb (length t) (table_size t) ≡ true = eq-eqb _ _ long in
    refused_checked _ _ _ _ _
    (stops_at_parent t c.requires.header ends _
    (found_is t _ c.plan_count-n.ensures _ _ c.lowest_bad_parent.ensures.lowest ∙ c.in-Some.is))

pub check_and_number-requires-clause-known : goal.check_and_number-requires-clause-known
check_and_number-requires-clause-known c =
    let t = c.args.table.now in
    let long : length t ≡ table_size t = c.if-table-table_size.false ∙ c.table_size.ensures in
    let whole = c.plan_count-n.ensures in
    let room = c.requires.room in
    known _ _ whole _ _ _ _ c.lowest_bad_parent.ensures c.in_default.is c.collect_named.ensures.found long
    (omega (arith, room.counts_room c.requires.header))
    (omega (arith, room.names_room c.requires.header))

pub returns : goal.returns
returns c =
    let t = c.args.table.now in
    let long : length t ≡ table_size t = c.if-table-table_size.false ∙ c.table_size.ensures in
    let ends : eqb (length t) (table_size t) ≡ true = eq-eqb _ _ long in
    let whole = c.plan_count-n.ensures in
    let shaped = c.lowest_bad_parent.ensures in
    let none = c.in_default.is in
    record {
      is =
          c.check_and_number.ensures.is
          ∙ sym (going_on t c.requires.header ends (found_is t _ whole _ _ shaped.lowest ∙ none));
      facts = λ d. facts t _ whole _ _ _ _ shaped none c.collect_named.ensures.found _ (c.check_and_number.ensures.numbered d);
    }
