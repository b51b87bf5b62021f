-- `Plans::is_undefined` meets its contract. Assumes nothing.
use Rattle.std.proofs.Common.{ap, ◌∙◌}
use Rattle.rules.specs.Answers.{undefined_entry, undefined_byte}
use Rattle.table.proofs.Plans.is_undefined.Goals as goal

pub returns : goal.returns
unfolding undefined_byte
returns c = c.undefined_entry.ensures ∙ ap undefined_entry c.entry_at.ensures
