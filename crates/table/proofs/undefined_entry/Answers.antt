-- `undefined_entry` meets its contract: test by test. Assumes nothing.
use Rattle.std.proofs.Common.{refl}
use Rattle.rules.specs.Answers.{undefined_entry}
use Rattle.table.proofs.undefined_entry.Goals as goal

pub returns : goal.returns
unfolding undefined_entry
returns c = refl
