-- `find_picks` meets its contract: a Ready plan may give its rank to its parent. Assumes nothing.
use Rattle.std.proofs.Common.{Bool, eqb, ap, ◌∙◌, arith}
use mathlib.Core.Bool.{not, ◌||◌}
use lib.ListN.{set, length-set}
use lib.Seq.{get_or-set_same}
use Rattle.rules.specs.Bytes.{byte_at}
use Rattle.rules.specs.States.{code}
use Rattle.rules.specs.Table.{body_of, is_body}
use Rattle.rules.specs.declared.Body.TheVariants.{AnyOrder}
use Rattle.rules.specs.declared.PlanState.TheVariants.{Activated}
use Rattle.rules.proofs.Derived.{same_body}
use Rattle.parts.proofs.Picks.{finding_root, finding_past, pick_turn, all_found}
use Rattle.parts.proofs.find_picks.Goals as goal

pub loop-p-init : goal.loop-p-init
loop-p-init c =
    finding_root _ _ _ _ _ _ c.requires.table.narrow.some (get_or-set_same c.args.picks.now 0 0 0 (omega arith))
    (get_or-set_same c.args.kept.now 0 0 0 (omega arith))

pub loop-p-preserved-then-old-p-ne-READY : goal.loop-p-preserved-then-old-p-ne-READY
loop-p-preserved-then-old-p-ne-READY c =
    finding_past _ _ _ _ _ c.requires.table.rooted _ _ _ _ (simp length-set c.requires.room.0) (simp length-set c.requires.room.1)
    c.loop-p.invariant
    c.loop-p-test.true
    c.if-old-p-ne-READY.true

pub loop-p-preserved-then-kept-q : goal.loop-p-preserved-then-kept-q
loop-p-preserved-then-kept-q c =
    let kept = c.loop-p.kept in
    let p = c.loop-p.p in
    let q = c.parent_at-q.result in
    let body = c.body_kind.ensures ∙ ap body_of c.entry_at.ensures in
    let turn =
    pick_turn _ _ _ _ _ c.requires.table.rooted _ _ _ _ (simp length-set c.requires.room.0) (simp length-set c.requires.room.1)
    c.loop-p.invariant
    c.loop-p-test.true
    c.if-old-p-ne-READY.false
    _
    c.parent_at-q.ensures
    _
    (c.requires.table.narrow.ranked p c.loop-p-test.true)
    _
    (ap (λ (b : Bool). eqb (byte_at (set kept p 0) q) (code Activated) || not b) (c.eq-any_order.ensures ∙ same_body _ AnyOrder ∙ ap (is_body AnyOrder) body))
    in
    turn.keeps c.if-kept-q.true

pub loop-p-preserved : goal.loop-p-preserved
loop-p-preserved c =
    let kept = c.loop-p.kept in
    let p = c.loop-p.p in
    let q = c.parent_at-q.result in
    let body = c.body_kind.ensures ∙ ap body_of c.entry_at.ensures in
    let turn =
    pick_turn _ _ _ _ _ c.requires.table.rooted _ _ _ _ (simp length-set c.requires.room.0) (simp length-set c.requires.room.1)
    c.loop-p.invariant
    c.loop-p-test.true
    c.if-old-p-ne-READY.false
    _
    c.parent_at-q.ensures
    _
    (c.requires.table.narrow.ranked p c.loop-p-test.true)
    _
    (ap (λ (b : Bool). eqb (byte_at (set kept p 0) q) (code Activated) || not b) (c.eq-any_order.ensures ∙ same_body _ AnyOrder ∙ ap (is_body AnyOrder) body))
    in
    turn.takes c.if-kept-q.false

pub returns : goal.returns
returns c = all_found _ _ _ _ _ _ _ _ _ c.requires.table.whole c.loop-p-test.false c.loop-p.invariant
