-- `step_over` meets its contract: the survey of the states, the picks of the words, the step from them, and the new states taken over.
-- Assumes nothing.
use Rattle.std.proofs.Common.{◌∙◌, arith}
use Rattle.rules.proofs.Tree.{passes, tree}
use Rattle.pass.proofs.Causes.{told_after_step}
use Rattle.pass.proofs.StepFacts.{known_names, may_survey, step_facts, may_take, taken_small, taken_step}
use Rattle.step.proofs.step_over.Goals as goal

pub survey-requires : goal.survey-requires
survey-requires c =
    let moves = c.requires.moves in
    let room = c.requires.room in
    let may = may_survey _ _ _ _ _ moves _ moves.passes.long c.args.sets.now room.sets_room room.empty in
    record { rooted = may.0; narrow = may.1.0; codes = may.1.1.0; room = may.1.1.1.0; empty = may.1.1.1.1 }

pub advance-requires-clause-facts : goal.advance-requires-clause-facts
advance-requires-clause-facts c =
    let moves = c.requires.moves in
    let room = c.requires.room in
    let whole = moves.passes.long in
    step_facts _ _ _ _ _ moves _ whole _ c.survey.ensures.found (omega (arith, room.sets_room, c.survey.ensures.rest.long)) _
    (omega (arith, room.picks_room, c.take_picks.ensures.rest.long))
    (taken_small _ _ _ _ _ moves _ whole _ c.take_picks.ensures.taken)

pub advance-requires-clause-names : goal.advance-requires-clause-names
advance-requires-clause-names c = known_names _ _ _ _ _ c.requires.moves _ c.requires.moves.passes.long

pub take_step-requires-clause-told : goal.take_step-requires-clause-told
take_step-requires-clause-told c =
    let moves = c.requires.moves in
    (may_take _ _ _ _ _ moves _ moves.passes.long _ _ (omega (arith, c.requires.room.new_room, c.advance.ensures.rest.long))
    c.requires.told).0

pub returns-clause-left : goal.returns-clause-left
returns-clause-left c =
    let moves = c.requires.moves in
    c.take_step.ensures.left
    ∙ c.advance.ensures.moved
    ∙ taken_step _ _ _ _ _ moves _ moves.passes.long _ c.take_picks.ensures.taken _

pub returns-clause-told : goal.returns-clause-told
returns-clause-told c =
    let moves = c.requires.moves in
    let whole = moves.passes.long in
    let is = c.advance.ensures.moved ∙ taken_step _ _ _ _ _ moves _ whole _ c.take_picks.ensures.taken _ in
    c.take_step.ensures.told
    ∙ told_after_step _ _ _ _ (tree _ (passes _ moves.prepared.done)) _ _ _ whole (c.requires.told ∙ whole) is
