-- `Owned::asking_plan` meets its contract: its owner is a plan. Assumes nothing.
use Rattle.std.proofs.Common.{ℕ, ap, ap₂, ◌∙◌, arith}
use lib.ListN.{get_or}
use Rattle.std.specs.Bool.{then_some}
use Rattle.rules.specs.WaitFor.{asks}
use Rattle.nodes.specs.Checking.{asks_more}
use Rattle.nodes.proofs.Owners.{owner_plan, owner_is, too_many_is}
use Rattle.nodes.proofs.Owned.asking_plan.Goals as goal

pub bounds-self-owner : goal.bounds-self-owner
bounds-self-owner c =
    let here = c.args.self.now in
    omega (arith, here.children.names_room, owner_plan _ _ _ here.nodes.there _ here.owned _ c.requires, c.from-owner.ensures)

pub returns : goal.returns
returns c =
    let here = c.args.self.now in
    c.then_some.ensures
    ∙ ap₂ then_some
    (c.asks_more.ensures
    ∙ ap₂ (λ asked (o : ℕ). asks_more asked (get_or here.names.now o 0)) (c.asks.ensures ∙ ap asks c.node_at.ensures)
    c.from-owner.ensures
    ∙ too_many_is _ _ _ here.nodes.there _ here.owned _ c.requires (here.good _ c.requires) here.names.now here.children.collected)
    (c.from-owner.ensures ∙ owner_is _ _ _ here.nodes.there _ here.owned _ c.requires)
