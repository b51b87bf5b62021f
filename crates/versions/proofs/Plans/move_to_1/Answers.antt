-- `Plans::move_to_1` meets its contract: 24, or all is written. Assumes nothing.
use Rattle.std.proofs.Common.{◌≡◌, ℕ, ◌+◌, ◌*◌, List, length, sym, arith}
use Rattle.std.proofs.lemmas.Result.{err_from_is_err_and}
use Rattle.versions.specs.Room.{HasPlans}
use Rattle.versions.specs.Versions.{in_version1}
use Rattle.versions.proofs.Laid.{length_1}
use Rattle.versions.proofs.Moves.{no_room, has_room, moved}
use Rattle.versions.proofs.Plans.move_to_1.Goals as goal

-- how many bytes are to be written
so_long : (t : List ℕ) (n : ℕ) → HasPlans t n → 8 + 8 * n ≡ length (in_version1 t)
so_long t n plans = omega (arith, length_1 t (omega (arith, plans.whole, plans.room)), plans.whole)

pub returns-in_err-room_check-clause-answer : goal.returns-in_err-room_check-clause-answer
returns-in_err-room_check-clause-answer c =
    let p = err_from_is_err_and c.from_residual.result c.from_residual.ensures.1 in
    rw (p.1, p.2) (no_room _ _ _ (sym (c.in_err-room_check.ensures _ (so_long _ _ c.args.self.now.there)))).0

pub returns-in_err-room_check-clause-left : goal.returns-in_err-room_check-clause-left
returns-in_err-room_check-clause-left c = (no_room _ _ _ (sym (c.in_err-room_check.ensures _ (so_long _ _ c.args.self.now.there)))).1

pub write_1-requires : goal.write_1-requires
write_1-requires c =
    let long = so_long _ _ c.args.self.now.there in
    omega (arith, long, has_room _ _ (sym (c.in_ok-room_check.ensures _ long)))

pub overflow_cast-result : goal.overflow_cast-result
overflow_cast-result c = omega (arith, c.write_1.ensures.place, so_long _ _ c.args.self.now.there, c.args.self.now.there.small)

pub returns-clause-answer : goal.returns-clause-answer
returns-clause-answer c = (moved _ _ _ _ (sym (c.in_ok-room_check.ensures _ (so_long _ _ c.args.self.now.there))) c.write_1.ensures).0

pub returns-clause-left : goal.returns-clause-left
returns-clause-left c = (moved _ _ _ _ (sym (c.in_ok-room_check.ensures _ (so_long _ _ c.args.self.now.there))) c.write_1.ensures).1
