-- `Nodes::check_asked` meets its contract: at first nobody owns anything, and good nodes have good operands. Assumes nothing.
use Rattle.std.proofs.Common.{refl, ℕ}
use lib.ListN.{get_or-replicate}
use Rattle.nodes.proofs.Owners.{good_operands}
use Rattle.nodes.proofs.Nodes.check_asked.Goals as goal

pub own_firsts-requires : goal.own_firsts-requires
own_firsts-requires c = ((λ j l. get_or-replicate {A = ℕ} 256 j 0 0 l), refl)

pub own_asked-requires-clause-good : goal.own_asked-requires-clause-good
own_asked-requires-clause-good c = λ i l. good_operands _ _ i c.args.self.now.there.nodes (c.requires.good i l)
