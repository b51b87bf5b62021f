-- `step_in` meets its contract: the checks, and where they pass one step, for which there is room. Assumes nothing.
use Rattle.std.proofs.Common.{ℕ, ◌≤◌, sym, ◌∙◌, length, arith}
use lib.ListN.{length-replicate, get_or-replicate}
use Rattle.rules.specs.Table.{plan_count}
use Rattle.rules.proofs.Tree.{passes}
use Rattle.demands.proofs.PassedCall.{table_passes, lengths}
use Rattle.lent.proofs.Calls.{may_move}
use Rattle.step.proofs.step_in.Goals as goal

pub step_over-requires-clause-moves : goal.step_over-requires-clause-moves
step_over-requires-clause-moves g c =
    let passed = sym c.check_call.ensures.is ∙ c.in_ok-check_call.was in
    let most : plan_count c.args.table.now ≤ g.row.PLANS = c.requires.room (passes _ (table_passes _ _ _ _ _ passed)).header in
    may_move _ _ _ _ _ _ _ _ passed (c.check_call.ensures.facts c.in_ok-check_call.was)
    (omega (arith, most, c.check_call.auto.ranks, length-replicate {A = ℕ}))
    (omega (arith, most, c.check_call.auto.names, c.requires.sizes, length-replicate {A = ℕ}))

pub step_over-requires-clause-room : goal.step_over-requires-clause-room
step_over-requires-clause-room g c =
    let passed = sym c.check_call.ensures.is ∙ c.in_ok-check_call.was in
    let most : plan_count c.args.table.now ≤ g.row.PLANS = c.requires.room (passes _ (table_passes _ _ _ _ _ passed)).header in
    let fits : length c.args.states.now ≤ g.row.PLANS = omega (arith, most, (lengths _ _ _ _ _ passed).0) in
    record {
      sets_room = omega (arith, fits, c.requires.sizes, length-replicate {A = ℕ});
      picks_room = omega (arith, fits, c.check_call.auto.counts, length-replicate {A = ℕ});
      new_room = omega (arith, fits, length-replicate {A = ℕ});
      empty = λ i l. get_or-replicate {A = ℕ} g.row.SETS i 0 0 (omega (arith, fits, c.requires.sizes, l));
    }

pub step_over-requires-clause-told : goal.step_over-requires-clause-told
step_over-requires-clause-told g c =
    let long = lengths _ _ _ _ _ (sym c.check_call.ensures.is ∙ c.in_ok-check_call.was) in
    long.2 ∙ sym long.0
