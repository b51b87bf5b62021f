-- `Plans::asks_too_many` meets its contract. Assumes nothing.
use Rattle.std.proofs.Common.{ap, ◌∙◌}
use mathlib.Core.Bool.{not}
use lib.Count.{ones}
use lib.Dec.{leb}
use lib.ListN.{get_or}
use Rattle.rules.specs.declared.PlanEntry.{PlanEntry}
use Rattle.table.proofs.Rules.{too_many_is}
use Rattle.table.proofs.Plans.asks_too_many.Goals as goal

pub returns : goal.returns
returns c =
    ap not (c.wait_for.ensures ∙ ap (λ (e : PlanEntry). leb e.wait (ones (get_or c.args.self.now.names.now c.args.p 0))) c.entry_at.ensures)
    ∙ too_many_is _ _ _ _ c.args.self.now.known _ c.requires
