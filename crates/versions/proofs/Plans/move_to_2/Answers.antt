-- `Plans::move_to_2` meets its contract: 24, or all is written. Assumes nothing.
use Rattle.std.proofs.Common.{◌≡◌, ◌≤◌, ℕ, ◌+◌, ◌*◌, List, length, sym, ap, arith}
use Rattle.std.proofs.lemmas.Result.{err_from_is_err_and}
use Rattle.versions.specs.Room.{HasPlans}
use Rattle.versions.specs.Versions.{nodes_before, in_version2}
use Rattle.versions.proofs.Laid.{length_2, nodes_within}
use Rattle.versions.proofs.Moves.{no_room, has_room, moved}
use Rattle.versions.proofs.Plans.move_to_2.Goals as goal

-- how many bytes are to be written
so_long : (t : List ℕ) (n nodes : ℕ) → HasPlans t n → nodes ≡ nodes_before t n → 10 + 8 * n + 4 * nodes ≡ length (in_version2 t)
so_long t n nodes plans e =
    omega (arith, length_2 t (omega (arith, plans.whole, plans.room)), plans.whole, ap (nodes_before t) plans.whole)

few : (t : List ℕ) (n nodes : ℕ) → HasPlans t n → nodes ≡ nodes_before t n → nodes ≤ 256
few t n nodes plans e = omega (arith, nodes_within t n, plans.small)

pub overflow_mul-nodes : goal.overflow_mul-nodes
overflow_mul-nodes c = omega (arith, few _ _ _ c.args.self.now.there c.count_nodes-nodes.ensures)

pub overflow_add-self-2 : goal.overflow_add-self-2
overflow_add-self-2 c =
    let plans = c.args.self.now.there in
    omega (arith, few _ _ _ plans c.count_nodes-nodes.ensures, plans.small)

pub returns-in_err-room_check-clause-answer : goal.returns-in_err-room_check-clause-answer
returns-in_err-room_check-clause-answer c =
    let long = so_long _ _ _ c.args.self.now.there c.count_nodes-nodes.ensures in
    let p = err_from_is_err_and c.from_residual.result c.from_residual.ensures.1 in
    rw (p.1, p.2) (no_room _ _ _ (sym (c.in_err-room_check.ensures _ long))).0

pub returns-in_err-room_check-clause-left : goal.returns-in_err-room_check-clause-left
returns-in_err-room_check-clause-left c =
    let long = so_long _ _ _ c.args.self.now.there c.count_nodes-nodes.ensures in
    (no_room _ _ _ (sym (c.in_err-room_check.ensures _ long))).1

pub write_2-requires-clause-room : goal.write_2-requires-clause-room
write_2-requires-clause-room c =
    let long = so_long _ _ _ c.args.self.now.there c.count_nodes-nodes.ensures in
    omega (arith, long, has_room _ _ (sym (c.in_ok-room_check.ensures _ long)))

pub overflow_cast-result : goal.overflow_cast-result
overflow_cast-result c =
    let e = c.count_nodes-nodes.ensures in
    omega (arith, c.write_2.ensures.place, so_long _ _ _ c.args.self.now.there e, few _ _ _ c.args.self.now.there e, c.args.self.now.there.small)

pub returns-clause-answer : goal.returns-clause-answer
returns-clause-answer c =
    let long = so_long _ _ _ c.args.self.now.there c.count_nodes-nodes.ensures in
    (moved _ _ _ _ (sym (c.in_ok-room_check.ensures _ long)) c.write_2.ensures).0

pub returns-clause-left : goal.returns-clause-left
returns-clause-left c =
    let long = so_long _ _ _ c.args.self.now.there c.count_nodes-nodes.ensures in
    (moved _ _ _ _ (sym (c.in_ok-room_check.ensures _ long)) c.write_2.ensures).1
