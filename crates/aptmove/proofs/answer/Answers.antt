-- `answer` meets its contract: 16, or the move from the table's own version. Assumes nothing.
use Rattle.std.proofs.Common.{true, false, sym, ◌∙◌}
use Rattle.versions.proofs.Moves.{refused, same_move}
use Rattle.aptmove.proofs.Inputs.{too_long, check_by, moved_by}
use Rattle.aptmove.proofs.answer.Goals as goal

pub returns-then-input-gt65536 : goal.returns-then-input-gt65536
returns-then-input-gt65536 c =
    let is = refused _ _ _ _ (too_long _ c.if-input-gt65536.true) in record { is = is.0; left = is.1 }

pub returns-then-is_first_version : goal.returns-then-is_first_version
returns-then-is_first_version c =
    let first = sym c.is_first_version.ensures ∙ c.if-is_first_version.true in
    let run = c.to_version_2.ensures in
    let told = same_move _ (check_by _ true first c.if-input-gt65536.false) (moved_by _ true first) (run.answer, run.left) in
    record { is = told.0; left = told.1 }

pub returns : goal.returns
returns c =
    let second = sym c.is_first_version.ensures ∙ c.if-is_first_version.false in
    let run = c.to_version_1.ensures in
    let told = same_move _ (check_by _ false second c.if-input-gt65536.false) (moved_by _ false second) (run.answer, run.left) in
    record { is = told.0; left = told.1 }
