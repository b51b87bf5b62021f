-- `Owned::is_bad_rank` meets its contract: its owner is a plan. Assumes nothing.
use Rattle.std.proofs.Common.{ℕ, ap, ap₂, ◌∙◌, arith}
use lib.ListN.{get_or}
use Rattle.rules.specs.WaitFor.{asks}
use Rattle.rules.specs.declared.Asks.{Asks}
use Rattle.nodes.specs.Checking.{asks_beyond}
use Rattle.nodes.proofs.Owners.{owner_plan, bad_rank_is}
use Rattle.nodes.proofs.Owned.is_bad_rank.Goals as goal

pub bounds-self-owner : goal.bounds-self-owner
bounds-self-owner c =
    let here = c.args.self.now in
    omega (arith, here.children.counts_room, owner_plan _ _ _ here.nodes.there _ here.owned _ c.requires, c.from-owner.ensures)

pub returns : goal.returns
returns c =
    let here = c.args.self.now in
    c.asks_beyond.ensures
    ∙ ap₂ (λ (asked : Asks) (o : ℕ). asks_beyond asked (get_or here.counts.now o 0)) (c.asks.ensures ∙ ap asks c.node_at.ensures)
    c.from-owner.ensures
    ∙ bad_rank_is _ _ _ here.nodes.there _ here.owned _ c.requires here.counts.now here.children.counted
