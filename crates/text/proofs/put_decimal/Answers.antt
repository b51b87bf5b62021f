-- `put_decimal` meets its contract: the digits that the kit spells are the decimal. Assumes nothing.
use Rattle.std.proofs.Common.{◌∙◌}
use Rattle.text.proofs.Decimals.{spells}
use Rattle.text.proofs.put_decimal.Goals as goal

pub returns-clause-items : goal.returns-clause-items
returns-clause-items g c =
    let spelled = c.decimal-k.ensures in
    rw (spelled.digits ∙ spells _ _ spelled.len) at c.put.ensures.items
