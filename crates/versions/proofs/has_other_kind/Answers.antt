-- `has_other_kind` meets its contract: its closure asks one node. Assumes nothing.
use Rattle.std.proofs.Common.{rules, eqb, sym}
use mathlib.Core.Bool.{not}
use Rattle.rules.specs.WaitFor.{node}
use Rattle.rules.proofs.Ranges.{some_from_any}
use Rattle.versions.specs.Versions.{other_kind}
use Rattle.versions.proofs.has_other_kind.Goals as goal

pub returns : goal.returns
unfolding other_kind
returns c =
    let t = c.args.table.now in
    let found = some_from_any (λ i. not (eqb (node t i).kind 5)) _ _ _ _ c.any.ensures.ran (λ x b q k. search rules) in
    rw (sym c.requires.all) found
