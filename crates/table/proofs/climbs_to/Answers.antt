-- `climbs_to` meets its contract: climbing goes down in plan numbers, and changes no answer. Assumes nothing.
use Rattle.std.proofs.Common.{◌<◌, ◌+◌, ℕ, sym, ap, ◌∙◌, arith}
use Rattle.rules.specs.Table.{is_or_is_above}
use Rattle.table.proofs.Climb.{climb_on, climb_end}
use Rattle.table.proofs.climbs_to.Goals as goal

pub loop-p-preserved : goal.loop-p-preserved
loop-p-preserved c =
    let table = c.args.table.now in
    let a = c.args.a in
    let p = c.loop-p.p in
    let up : c.parent_at-p.result < p = omega (arith, c.parent_at-p.ensures, c.requires.down p (omega arith) (omega arith)) in (
      omega arith,
      c.loop-p.invariant.1
          ∙ climb_on table (c.args.from + 1) c.requires.down a p (omega arith) c.loop-p-test.true
          ∙ ap (λ (k : ℕ). is_or_is_above table a k k) (sym c.parent_at-p.ensures),
    )

pub returns : goal.returns
returns c =
    sym
    (c.loop-p.invariant.1
    ∙ climb_end c.args.table.now (c.args.from + 1) c.requires.down c.args.a c.loop-p.p (omega arith) (omega arith))
