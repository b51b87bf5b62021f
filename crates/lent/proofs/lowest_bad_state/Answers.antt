-- `lowest_bad_state` meets its contract: a turn at plan p passes it and adds to its parent's marks, by a short way where
-- p is Inactive. Assumes nothing.
use Rattle.std.proofs.Common.{◌≡◌, refl, ◌∙◌, ◌<◌, arith, below_none}
use Rattle.lent.proofs.Marks.{marks_none, bad_code, good_root, mark_turn, idle_turn}
use Rattle.lent.proofs.lowest_bad_state.Goals as goal

pub returns-then-states-gt-REJECTED : goal.returns-then-states-gt-REJECTED
returns-then-states-gt-REJECTED c = (c.requires.some, bad_code _ _ 0 c.if-states-gt-REJECTED.true, below_none _)

pub loop-p-init : goal.loop-p-init
loop-p-init c =
    let fits = c.requires.rooted.small in
    record {
      started = omega arith;
      within = omega (arith, c.requires.some);
      passed = λ k l. let e : k ≡ 0 = omega arith in rw e (good_root _ _ c.if-states-gt-REJECTED.false);
      alone_marks = marks_none _ _ _ 256 fits;
      shut_marks = marks_none _ _ _ 256 fits;
    }

pub returns-then-states-p-gt-REJECTED : goal.returns-then-states-p-gt-REJECTED
returns-then-states-p-gt-REJECTED c =
    (c.loop-p-test.true, bad_code _ _ _ c.if-states-p-gt-REJECTED.true, c.loop-p.invariant.passed)

pub loop-p-preserved-then-states-p-eq-INACTIVE : goal.loop-p-preserved-then-states-p-eq-INACTIVE
loop-p-preserved-then-states-p-eq-INACTIVE c =
    let inside : c.parent_at-q.result < c.args.n =
    omega (arith, c.parent_at-q.ensures, c.loop-p-test.true, c.requires.rooted.down c.loop-p.p c.loop-p.invariant.started c.loop-p-test.true) in
    idle_turn _ _ _ _ c.requires.whole _ _ c.loop-p.invariant c.loop-p-test.true c.if-states-p-gt-REJECTED.false _ c.parent_at-q.ensures
    inside c.if-states-p-eq-INACTIVE.true

pub returns-then-fits-breaks_by : goal.returns-then-fits-breaks_by
returns-then-fits-breaks_by c =
    let inside : c.parent_at-q.result < c.args.n =
    omega (arith, c.parent_at-q.ensures, c.loop-p-test.true, c.requires.rooted.down c.loop-p.p c.loop-p.invariant.started c.loop-p-test.true) in
    let turn =
    mark_turn _ _ _ _ c.requires.whole _ _ c.loop-p.invariant c.loop-p-test.true c.if-states-p-gt-REJECTED.false _ c.parent_at-q.ensures
    inside c.if-states-p-eq-INACTIVE.false _ _ _ _ _ _ c.entry_at-e.ensures c.from_byte-child.ensures c.from_byte.ensures
    c.body_kind-body.ensures c.child_suits-fits.ensures c.breaks_by.ensures in
    (c.loop-p-test.true, turn.tested ∙ c.if-fits-breaks_by.true, c.loop-p.invariant.passed)

pub loop-p-preserved : goal.loop-p-preserved
loop-p-preserved c =
    let inside : c.parent_at-q.result < c.args.n =
    omega (arith, c.parent_at-q.ensures, c.loop-p-test.true, c.requires.rooted.down c.loop-p.p c.loop-p.invariant.started c.loop-p-test.true) in
    let turn =
    mark_turn _ _ _ _ c.requires.whole _ _ c.loop-p.invariant c.loop-p-test.true c.if-states-p-gt-REJECTED.false _ c.parent_at-q.ensures
    inside c.if-states-p-eq-INACTIVE.false _ _ _ _ _ _ c.entry_at-e.ensures c.from_byte-child.ensures c.from_byte.ensures
    c.body_kind-body.ensures c.child_suits-fits.ensures c.breaks_by.ensures in
    turn.next (turn.tested ∙ c.if-fits-breaks_by.false) _ _ _ _ _ c.retries_aborted.ensures c.stands_alone.ensures c.lets_later.ensures
    refl refl
