-- `to_version_2` meets its contract: by the checks before 24. Assumes nothing.
use Rattle.std.proofs.Common.{sym, subst, arith}
use Rattle.std.proofs.lemmas.Result.{err_from_is_err_and}
use Rattle.versions.specs.Room.{HasPlans}
use Rattle.versions.proofs.Moves.{refused, has_plans}
use Rattle.versions.proofs.to_version_2.Goals as goal

pub returns-in_err-check_from-clause-answer : goal.returns-in_err-check_from-clause-answer
returns-in_err-check_from-clause-answer c =
    let p = err_from_is_err_and c.from_residual.result c.from_residual.ensures.1 in
    rw (p.1, p.2) (refused _ _ _ _ (sym c.in_err-check_from.ensures)).0

pub returns-in_err-check_from-clause-left : goal.returns-in_err-check_from-clause-left
returns-in_err-check_from-clause-left c = (refused _ _ _ _ (sym c.in_err-check_from.ensures)).1

pub plan_count-n-requires : goal.plan_count-n-requires
plan_count-n-requires c = omega (arith, (has_plans _ _ (sym c.in_ok-check_from.ensures)).room)

pub invariant_of-move_to_2 : goal.invariant_of-move_to_2
invariant_of-move_to_2 c =
    record { there = subst (HasPlans c.args.table.now) (sym c.plan_count-n.ensures) (has_plans _ _ (sym c.in_ok-check_from.ensures)) }
