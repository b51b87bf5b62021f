-- `number_asked` meets its contract: a wait number, none of a leaf, or what the first node of a formula asks for. Assumes nothing.
use Rattle.std.proofs.Common.{sym, ap, ◌∙◌, arith}
use Rattle.rules.specs.Table.{body_of, is_body}
use Rattle.rules.specs.WaitFor.{asks, node}
use Rattle.rules.specs.declared.Body.TheVariants.{Leaf}
use Rattle.rules.specs.declared.PlanEntry.{PlanEntry}
use Rattle.rules.proofs.Derived.{same_body}
use Rattle.formulas.specs.Asked.{number_in}
use Rattle.formulas.proofs.Evaluated.{first_there}
use Rattle.formulas.proofs.Numbers.{first_number, no_number, leaf_number, node_number}
use Rattle.formulas.proofs.number_asked.Goals as goal

pub returns-then-is_first_version : goal.returns-then-is_first_version
returns-then-is_first_version c =
    c.from.ensures ∙ ap (λ (e : PlanEntry). e.wait) c.entry_at-e.ensures ∙ first_number _ _ (sym c.is_first_version.ensures ∙ c.if-is_first_version.true)

pub returns-then-eq : goal.returns-then-eq
returns-then-eq c =
    let is = c.eq.ensures ∙ same_body c.body_kind.result Leaf in
    let leaf = sym (is ∙ ap (is_body Leaf) (c.body_kind.ensures ∙ ap body_of c.entry_at-e.ensures)) ∙ c.if-eq.true in
    leaf_number _ _ (sym c.is_first_version.ensures ∙ c.if-is_first_version.false) leaf

-- where it is no leaf, its first node is there
pub node_at-requires : goal.node_at-requires
node_at-requires c =
    let is = c.eq.ensures ∙ same_body c.body_kind.result Leaf in
    let leaf = sym (is ∙ ap (is_body Leaf) (c.body_kind.ensures ∙ ap body_of c.entry_at-e.ensures)) ∙ c.if-eq.false in
    let first = c.from-2.ensures ∙ ap (λ (e : PlanEntry). e.wait) c.entry_at-e.ensures in
    let formed = c.requires.0.formed (sym c.is_first_version.ensures ∙ c.if-is_first_version.false) in
    let there = first_there _ formed _ (omega (arith, c.requires.1, c.requires.0.whole)) leaf in
    omega (arith, there, first, formed.room)

-- what the node says is what the plan asks for
pub returns-in-AtLeast : goal.returns-in-AtLeast
returns-in-AtLeast c =
    let is = c.eq.ensures ∙ same_body c.body_kind.result Leaf in
    let leaf = sym (is ∙ ap (is_body Leaf) (c.body_kind.ensures ∙ ap body_of c.entry_at-e.ensures)) ∙ c.if-eq.false in
    let first = c.from-2.ensures ∙ ap (λ (e : PlanEntry). e.wait) c.entry_at-e.ensures in
    let asked = c.asks.ensures ∙ ap asks (c.node_at.ensures ∙ ap (node c.args.table.now) first) in
    c.from-in-AtLeast.ensures ∙ ap number_in (sym c.in-AtLeast.is ∙ asked) ∙ node_number _ _ (sym c.is_first_version.ensures ∙ c.if-is_first_version.false) leaf

pub returns-in_default : goal.returns-in_default
returns-in_default c =
    let is = c.eq.ensures ∙ same_body c.body_kind.result Leaf in
    let leaf = sym (is ∙ ap (is_body Leaf) (c.body_kind.ensures ∙ ap body_of c.entry_at-e.ensures)) ∙ c.if-eq.false in
    let first = c.from-2.ensures ∙ ap (λ (e : PlanEntry). e.wait) c.entry_at-e.ensures in
    let asked = c.asks.ensures ∙ ap asks (c.node_at.ensures ∙ ap (node c.args.table.now) first) in
    no_number _ c.in_default.not-AtLeast ∙ ap number_in asked ∙ node_number _ _ (sym c.is_first_version.ensures ∙ c.if-is_first_version.false) leaf
