-- `survey` meets its contract: a turn at plan p adds p's bit to its parent's word for p's state. Assumes nothing.
use Rattle.std.proofs.Common.{true, refl, ◌∙◌, arith}
use Rattle.children.proofs.Kin.{shifted, survey_turn, surveyed_root, beyond_none}
use Rattle.children.proofs.survey.Goals as goal

pub loop-p-init : goal.loop-p-init
loop-p-init c =
    record {
      started = omega arith;
      within = c.requires.narrow.some;
      room = c.requires.room.2;
      rest = beyond_none _ _;
      word = surveyed_root c.args.table.now c.args.states.now c.args.n c.args.sets.now c.requires.empty;
    }

pub overflow_add-sets : goal.overflow_add-sets
overflow_add-sets c =
    let inside = c.loop-p-test.true in
    let state = c.from.ensures in
    record {
      fits =
          (survey_turn _ _ _ _ c.requires.rooted _ _ c.loop-p.invariant inside (c.requires.narrow.narrow _ inside) _ _ _ c.parent_at-q.ensures
          state
          (rw state (c.requires.codes _ inside))
          (shifted true 1 _ _ refl (c.requires.narrow.ranked _ inside) (c.requires.narrow.narrow _ inside) ∙ omega arith)).fits;
    }

pub loop-p-preserved : goal.loop-p-preserved
loop-p-preserved c =
    let inside = c.loop-p-test.true in
    let state = c.from.ensures in
    (survey_turn _ _ _ _ c.requires.rooted _ _ c.loop-p.invariant inside (c.requires.narrow.narrow _ inside) _ _ _ c.parent_at-q.ensures
    state
    (rw state (c.requires.codes _ inside))
    (shifted true 1 _ _ refl (c.requires.narrow.ranked _ inside) (c.requires.narrow.narrow _ inside) ∙ omega arith)).next
