-- `Nodes::is_stray_first` meets its contract. Assumes nothing.
use Rattle.rules.specs.Answers.{stray_first}
use Rattle.nodes.proofs.Nodes.is_stray_first.Goals as goal

pub returns : goal.returns
unfolding stray_first
returns c = simp (c.args.self.now.there.nodes, c.from.ensures, c.is_leaf.ensures, c.entry_at-e.ensures)
