-- `lowest_unrooted` meets its contract: the plans passed keep the parent rule, so climbing from the last of them ends. Assumes nothing.
use Rattle.std.proofs.Common.{◌≡◌, ℕ, ◌+◌, ◌-◌, sym, ap, ◌∙◌, arith}
use mathlib.Core.Bool.{not}
use borrow.Author.Count.{below_more}
use borrow.Author.Tests.{eq-eqb, ne_eqb}
use Rattle.rules.specs.Table.{is_or_is_above}
use Rattle.table.proofs.Shape.{rooted_first, unrooted_root, unrooted_next}
use Rattle.table.proofs.lowest_unrooted.Goals as goal

pub returns-then-parent_at-ne65535 : goal.returns-then-parent_at-ne65535
returns-then-parent_at-ne65535 c = (
  c.requires.0,
  unrooted_root c.args.table.now ∙ ap not (ne_eqb _ _ (λ e. c.if-parent_at-ne65535.true (c.parent_at.ensures ∙ e))),
  λ k l. absurd (omega arith),
)

pub loop-p-init : goal.loop-p-init
loop-p-init c =
    let no-parent = sym c.parent_at.ensures ∙ c.if-parent_at-ne65535.false in
    let root = unrooted_root c.args.table.now ∙ ap not (eq-eqb _ _ no-parent) in
    (omega arith, omega (arith, c.requires.0), λ k l. let e : k ≡ 0 = omega arith in rw e root)

pub climbs_to-requires : goal.climbs_to-requires
climbs_to-requires c =
    let same : c.loop-p.p - 1 + 1 ≡ c.loop-p.p = omega arith in
    rw same (rooted_first _ _ (omega arith) (omega arith) c.loop-p.invariant.2)

-- the rule at p, as the code has it
pub returns-then-not-climbs_to : goal.returns-then-not-climbs_to
returns-then-not-climbs_to c =
    let table = c.args.table.now in
    let p = c.loop-p.p in
    let tested =
    unrooted_next table p c.loop-p.invariant.0
    ∙ ap not (sym (c.climbs_to.ensures ∙ ap (λ (q : ℕ). is_or_is_above table q (p - 1) (p - 1)) c.parent_at-in-loop-p.ensures))
    in
    (c.loop-p-test.true, tested ∙ ap not c.if-not-climbs_to.true, c.loop-p.invariant.2)

pub loop-p-preserved : goal.loop-p-preserved
loop-p-preserved c =
    let table = c.args.table.now in
    let p = c.loop-p.p in
    let tested =
    unrooted_next table p c.loop-p.invariant.0
    ∙ ap not (sym (c.climbs_to.ensures ∙ ap (λ (q : ℕ). is_or_is_above table q (p - 1) (p - 1)) c.parent_at-in-loop-p.ensures))
    in
    (omega arith, omega arith, below_more _ _ c.loop-p.invariant.2 (tested ∙ ap not c.if-not-climbs_to.false))

pub returns : goal.returns
returns c = λ k l. c.loop-p.invariant.2 k (omega arith)
