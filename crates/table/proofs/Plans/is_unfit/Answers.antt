-- `Plans::is_unfit` meets its contract. Assumes nothing.
use Rattle.std.proofs.Common.{ap, ◌∙◌}
use lib.ListN.{get_or}
use Rattle.rules.specs.Answers.{unfit_entry}
use Rattle.table.proofs.Rules.{unfit_is}
use Rattle.table.proofs.Plans.is_unfit.Goals as goal

pub returns : goal.returns
returns c =
    c.unfit_entry.ensures
    ∙ ap (unfit_entry c.args.p (get_or c.args.self.now.counts.now c.args.p 0)) c.entry_at.ensures
    ∙ unfit_is _ _ _ _ c.args.self.now.known _ c.requires
