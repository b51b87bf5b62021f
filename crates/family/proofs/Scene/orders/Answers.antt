-- `orders` meets its contract: the root's, and a child's by its parent. Assumes nothing.
use Rattle.std.proofs.Common.{sym, ap, ◌∙◌, ℕ, ◌<◌, eqb, arith}
use Rattle.rules.specs.Table.{plan_count}
use Rattle.rules.specs.Step.{chosen}
use Rattle.rules.proofs.Codes.{state_is}
use Rattle.family.specs.Tells.{RankedChild}
use Rattle.family.specs.StepFacts.{picks_of}
use Rattle.family.proofs.OrdersAt.{child_of, child_orders}
use Rattle.family.proofs.Scene.orders.Goals as goal

pub returns : goal.returns
returns c =
    let facts = c.requires.facts in
    let within = c.requires.plan.0 in
    let scene = c.args.self.now in
    let w = scene.words.now in
    let t = scene.table.now in
    let s = scene.old.now in
    let picks : ℕ → ℕ = picks_of scene.picks.now in
    let siblings = c.children-siblings.ensures in
    let p = c.args.p in
    let q = c.parent_at-q.result in
    let child : 0 < p = omega (arith, c.if-p-eq0.false) in
    let is_parent = c.parent_at-q.ensures in
    let inside : q < plan_count t = omega (arith, is_parent, facts.down _ child within, within) in
    let known = facts.children q inside in
    let ranked : RankedChild t q p _ =
    record { child = child_of t q p child within is_parent; ranked = c.from-rank.ensures ∙ facts.ranked p within } in
    let chosen_of = rw (siblings.0, siblings.1) at c.chosen_rank.ensures in
    let ordered = rw (siblings.0, siblings.1) at c.orders_if.ensures in
    let picked =
    ap (λ (k : ℕ). eqb k c.chosen_rank.result) ranked.ranked
    ∙ chosen_of t s picks p known ranked.child (c.requires.named.collected q inside) (sym c.from.ensures) in
    let before = c.from_byte-before.ensures ∙ sym (state_is s q) in
    ordered t s w (chosen t s picks) p known ranked c.entry_at-e.ensures c.word_at.ensures picked
    ∙ child_orders t s w (chosen t s picks) _ c.args.after q p child is_parent before
