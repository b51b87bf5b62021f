-- `resurvey` meets its contract: a turn at plan p moves p's bit from its parent's word for p's old state to that for its new one, and
-- a turn at a plan that did not change leaves all as it is. Assumes nothing.
use Rattle.std.proofs.Common.{true, refl, sym, ◌∙◌, arith}
use Rattle.children.proofs.Kin.{shifted}
use Rattle.children.proofs.Changes.{resurvey_root, resurvey_turn, resurvey_end}
use Rattle.children.proofs.resurvey.Goals as goal

pub loop-p-init : goal.loop-p-init
loop-p-init c = resurvey_root _ _ _ _ _ c.requires.narrow.some c.requires.room.3 c.requires.surveyed

pub overflow_sub-sets : goal.overflow_sub-sets
overflow_sub-sets c =
    let inside = c.loop-p-test.true in
    let old = c.from.ensures in
    let new = c.from-in-loop-p.ensures in
    (resurvey_turn _ _ _ _ _ c.requires.rooted c.requires.narrow.narrow _ _ c.loop-p.invariant inside _ _ _ _ c.parent_at-q.ensures
    old
    new
    (rw old (c.requires.codes _ inside).0)
    (rw new (c.requires.codes _ inside).1)
    (λ e. c.if-old-p.false (sym old ∙ e ∙ new))
    (shifted true 1 _ _ refl (c.requires.narrow.ranked _ inside) (c.requires.narrow.narrow _ inside) ∙ omega arith)).has

pub overflow_add-sets : goal.overflow_add-sets
overflow_add-sets c =
    let inside = c.loop-p-test.true in
    let old = c.from.ensures in
    let new = c.from-in-loop-p.ensures in
    record {
      fits =
          (resurvey_turn _ _ _ _ _ c.requires.rooted c.requires.narrow.narrow _ _ c.loop-p.invariant inside _ _ _ _ c.parent_at-q.ensures
          old
          new
          (rw old (c.requires.codes _ inside).0)
          (rw new (c.requires.codes _ inside).1)
          (λ e. c.if-old-p.false (sym old ∙ e ∙ new))
          (shifted true 1 _ _ refl (c.requires.narrow.ranked _ inside) (c.requires.narrow.narrow _ inside) ∙ omega arith)).fits _;
    }

pub loop-p-preserved : goal.loop-p-preserved
loop-p-preserved c =
    let inside = c.loop-p-test.true in
    let old = c.from.ensures in
    let new = c.from-in-loop-p.ensures in
    (resurvey_turn _ _ _ _ _ c.requires.rooted c.requires.narrow.narrow _ _ c.loop-p.invariant inside _ _ _ _ c.parent_at-q.ensures
    old
    new
    (rw old (c.requires.codes _ inside).0)
    (rw new (c.requires.codes _ inside).1)
    (λ e. c.if-old-p.false (sym old ∙ e ∙ new))
    (shifted true 1 _ _ refl (c.requires.narrow.ranked _ inside) (c.requires.narrow.narrow _ inside) ∙ omega arith)).next

pub returns-clause-found : goal.returns-clause-found
returns-clause-found c = resurvey_end _ _ _ _ _ _ _ c.loop-p-test.false c.loop-p.invariant
