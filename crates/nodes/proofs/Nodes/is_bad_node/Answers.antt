-- `Nodes::is_bad_node` meets its contract. Assumes nothing.
use Rattle.std.proofs.Common.{sym, ap, ap₂, ◌∙◌, arith}
use mathlib.Core.Bool.{Bool, not, ◌||◌}
use lib.Dec.{eqb}
use Rattle.rules.specs.Bytes.{byte_at}
use Rattle.rules.specs.Answers.{bad_bytes}
use Rattle.rules.specs.WaitFor.{asks}
use Rattle.rules.specs.declared.Asks.{Asks}
use Rattle.nodes.specs.Checking.{bad_operands}
use Rattle.nodes.proofs.Uses.{bad_node_is}
use Rattle.nodes.proofs.Nodes.is_bad_node.Goals as goal

pub returns : goal.returns
returns c =
    let i = c.args.i in
    let nodes = c.args.self.now in
    ap₂ (λ (a b : Bool). a || b || not (eqb (byte_at c.args.«uses».now i) 1))
    (c.bad_bytes.ensures ∙ ap bad_bytes c.node_at-e.ensures)
    (c.bad_operands.ensures ∙ ap (λ (asked : Asks). bad_operands asked i nodes.k) (c.asks.ensures ∙ ap asks c.node_at-e.ensures))
    ∙ sym (bad_node_is _ _ _ i _ nodes.there c.requires.«uses» (omega (arith, nodes.few, c.requires.node)))
