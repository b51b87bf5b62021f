-- `next_state` meets its contract: the list's lines one by one. Where a test has been made, the outcome is the line that fits. Assumes
-- nothing.
use Rattle.std.proofs.Common.{◌≡◌, refl, sym, ap, ap₂, ◌∙◌, Bool, true, false, cond, ◌||◌, inl, inr, List, ℕ}
use Rattle.rules.specs.Bytes.{byte_at}
use Rattle.rules.specs.States.{state_of, is, in_selection, in_execution, ended}
use Rattle.rules.specs.Table.{entry}
use Rattle.rules.specs.Words.{word}
use Rattle.rules.specs.Step.{move_by, move, too_many_lost, children_complete, chosen, new_state}
use Rattle.rules.specs.declared.PlanState.{PlanState}
use Rattle.rules.specs.declared.PlanState.TheVariants.{Inactive, Activated, Suspended, Aborted, Rejected}
use Rattle.rules.proofs.Codes.{state_is}
use Rattle.rules.proofs.Derived.{same_state}
use Rattle.family.specs.declared.Scene.{Scene}
use Rattle.family.specs.OrdersAt.{orders_at}
use Rattle.family.specs.StepFacts.{picks_of}
use Rattle.moves.specs.Parents.{parent_state}
use Rattle.moves.proofs.Moves.{as_move}
use Rattle.moves.proofs.next_state.Goals as goal
use Rattle.moves.proofs.next_state.Goals.{then-eq-via-then-eq, then-eq-via-else-eq+then-in_selection}

-- two tests, and what was answered to each
first_passes : {a x : Bool} (y : Bool) → a ≡ x → a ≡ true → (x || y) ≡ true
first_passes y ea a = ap (λ (b : Bool). b || y) (sym ea ∙ a)

second_passes : {a b x y : Bool} → a ≡ x → a ≡ false → b ≡ y → b ≡ true → (x || y) ≡ true
second_passes ea a eb b = ap₂ (λ (u v : Bool). u || v) (sym ea ∙ a) (sym eb ∙ b)

neither_passes : {a b x y : Bool} → a ≡ x → a ≡ false → b ≡ y → b ≡ false → (x || y) ≡ false
neither_passes ea a eb b = ap₂ (λ (u v : Bool). u || v) (sym ea ∙ a) (sym eb ∙ b)

-- where both states are known: what the list is about
module _
    (scene : Scene) (new : List ℕ) (p : ℕ) {up old : PlanState} (above : up ≡ parent_state scene.table.now new p)
    (own : old ≡ state_of (byte_at scene.old.now p)) where
  abbrev t : List ℕ
  t = scene.table.now

  abbrev s : List ℕ
  s = scene.old.now

  abbrev w : List ℕ
  w = scene.words.now

  abbrev choice : ℕ → ℕ
  choice = chosen t s (picks_of scene.picks.now)

  abbrev moved : PlanState → PlanState
  moved = move up (orders_at t s w choice up p) (entry t p) (word w p) (too_many_lost t s scene.rule p) (children_complete t s p)

  leads : {is_old r : PlanState} → old ≡ is_old → moved is_old ≡ r → r ≡ new_state scene.rule t s w choice new p
  leads told there = sym (as_move t s w choice scene.rule new p up old above (own ∙ sym (state_is s p)) ∙ ap moved told ∙ there)

  -- the parent has not begun
  under_dormant : (is Inactive up || in_selection up) ≡ true → Inactive ≡ new_state scene.rule t s w choice new p
  unfolding move_by
  under_dormant d = leads refl (rw d refl)

  -- the parent has ended
  module _ (begun : (is Inactive up || in_selection up) ≡ false) (over : ended up ≡ true) where
    under_ended :
        {selected executed : Bool} → in_selection old ≡ selected → in_execution old ≡ executed
        → cond selected Rejected (cond executed Aborted old) ≡ new_state scene.rule t s w choice new p
    unfolding move_by
    under_ended a b = leads refl (rw (begun, over, a, b) refl)

pub returns-then-eq : goal.returns-then-eq
returns-then-eq c =
    let idle = c.eq.ensures ∙ same_state _ Inactive in
    elim c.then-eq.branch [
      | then-eq-via-then-eq w ↦ under_dormant c.args.scene.now c.args.new.now c.args.p c.parent_state-parent.ensures c.from_byte-state.ensures (first_passes _ idle w.if-eq.true)
      | then-eq-via-else-eq+then-in_selection w ↦
          under_dormant c.args.scene.now c.args.new.now c.args.p c.parent_state-parent.ensures c.from_byte-state.ensures
          (second_passes idle w.if-eq.false w.in_selection.ensures w.if-in_selection.true)
    ]

pub returns-then-in_selection-2 : goal.returns-then-in_selection-2
returns-then-in_selection-2 c =
    let begun = neither_passes (c.eq.ensures ∙ same_state _ Inactive) c.if-eq.false c.in_selection.ensures c.if-in_selection.false in
    under_ended c.args.scene.now c.args.new.now c.args.p c.parent_state-parent.ensures c.from_byte-state.ensures begun (sym c.is_ended.ensures ∙ c.if-is_ended.true)
    (sym c.in_selection-then-is_ended.ensures ∙ c.if-in_selection-2.true) refl

pub returns-then-in_execution : goal.returns-then-in_execution
returns-then-in_execution c =
    let begun = neither_passes (c.eq.ensures ∙ same_state _ Inactive) c.if-eq.false c.in_selection.ensures c.if-in_selection.false in
    under_ended c.args.scene.now c.args.new.now c.args.p c.parent_state-parent.ensures c.from_byte-state.ensures begun (sym c.is_ended.ensures ∙ c.if-is_ended.true)
    (sym c.in_selection-then-is_ended.ensures ∙ c.if-in_selection-2.false) (sym c.in_execution.ensures ∙ c.if-in_execution.true)

pub returns-then-is_ended : goal.returns-then-is_ended
returns-then-is_ended c =
    let begun = neither_passes (c.eq.ensures ∙ same_state _ Inactive) c.if-eq.false c.in_selection.ensures c.if-in_selection.false in
    under_ended c.args.scene.now c.args.new.now c.args.p c.parent_state-parent.ensures c.from_byte-state.ensures begun (sym c.is_ended.ensures ∙ c.if-is_ended.true)
    (sym c.in_selection-then-is_ended.ensures ∙ c.if-in_selection-2.false) (sym c.in_execution.ensures ∙ c.if-in_execution.false)

pub returns-then-orders : goal.returns-then-orders
unfolding move_by
returns-then-orders c =
    let begun = neither_passes (c.eq.ensures ∙ same_state _ Inactive) c.if-eq.false c.in_selection.ensures c.if-in_selection.false in
    let going_on = sym c.is_ended.ensures ∙ c.if-is_ended.false in
    leads c.args.scene.now c.args.new.now c.args.p c.parent_state-parent.ensures c.from_byte-state.ensures c.in-Inactive.is
    (simp (begun, going_on, ← c.orders.ensures, c.if-orders.true))

pub returns-else-orders : goal.returns-else-orders
unfolding move_by
returns-else-orders c =
    let begun = neither_passes (c.eq.ensures ∙ same_state _ Inactive) c.if-eq.false c.in_selection.ensures c.if-in_selection.false in
    let going_on = sym c.is_ended.ensures ∙ c.if-is_ended.false in
    leads c.args.scene.now c.args.new.now c.args.p c.parent_state-parent.ensures c.from_byte-state.ensures c.in-Inactive.is
    (simp (begun, going_on, ← c.orders.ensures, c.if-orders.false, c.in-Inactive.is))

pub returns-then-holds : goal.returns-then-holds
unfolding move_by
returns-then-holds c =
    let begun = neither_passes (c.eq.ensures ∙ same_state _ Inactive) c.if-eq.false c.in_selection.ensures c.if-in_selection.false in
    let going_on = sym c.is_ended.ensures ∙ c.if-is_ended.false in
    leads c.args.scene.now c.args.new.now c.args.p c.parent_state-parent.ensures c.from_byte-state.ensures c.in-Considered.is
    (simp (begun, going_on, ← c.holds.ensures, c.if-holds.true))

pub returns-then-not-satisfiable : goal.returns-then-not-satisfiable
unfolding move_by
returns-then-not-satisfiable c =
    let begun = neither_passes (c.eq.ensures ∙ same_state _ Inactive) c.if-eq.false c.in_selection.ensures c.if-in_selection.false in
    let going_on = sym c.is_ended.ensures ∙ c.if-is_ended.false in
    leads c.args.scene.now c.args.new.now c.args.p c.parent_state-parent.ensures c.from_byte-state.ensures c.in-Considered.is
    (simp (begun, going_on, ← c.holds.ensures, c.if-holds.false, ← c.satisfiable.ensures, c.if-not-satisfiable.true))

pub returns-else-not-satisfiable : goal.returns-else-not-satisfiable
unfolding move_by
returns-else-not-satisfiable c =
    let begun = neither_passes (c.eq.ensures ∙ same_state _ Inactive) c.if-eq.false c.in_selection.ensures c.if-in_selection.false in
    let going_on = sym c.is_ended.ensures ∙ c.if-is_ended.false in
    leads c.args.scene.now c.args.new.now c.args.p c.parent_state-parent.ensures c.from_byte-state.ensures c.in-Considered.is
    (simp (begun, going_on, ← c.holds.ensures, c.if-holds.false, ← c.satisfiable.ensures, c.if-not-satisfiable.false, c.in-Considered.is))

pub returns-then-holds-2 : goal.returns-then-holds-2
unfolding move_by
returns-then-holds-2 c =
    let begun = neither_passes (c.eq.ensures ∙ same_state _ Inactive) c.if-eq.false c.in_selection.ensures c.if-in_selection.false in
    let going_on = sym c.is_ended.ensures ∙ c.if-is_ended.false in
    leads c.args.scene.now c.args.new.now c.args.p c.parent_state-parent.ensures c.from_byte-state.ensures c.in-Possible.is
    (simp (begun, going_on, ← c.holds-in-Possible.ensures, c.if-holds-2.true))

pub returns-then-not-satisfiable-2 : goal.returns-then-not-satisfiable-2
unfolding move_by
returns-then-not-satisfiable-2 c =
    let begun = neither_passes (c.eq.ensures ∙ same_state _ Inactive) c.if-eq.false c.in_selection.ensures c.if-in_selection.false in
    let going_on = sym c.is_ended.ensures ∙ c.if-is_ended.false in
    leads c.args.scene.now c.args.new.now c.args.p c.parent_state-parent.ensures c.from_byte-state.ensures c.in-Possible.is
    (simp (begun, going_on, ← c.holds-in-Possible.ensures, c.if-holds-2.false, ← c.satisfiable-else-holds-2.ensures, c.if-not-satisfiable-2.true))

pub returns-else-not-satisfiable-2 : goal.returns-else-not-satisfiable-2
unfolding move_by
returns-else-not-satisfiable-2 c =
    let begun = neither_passes (c.eq.ensures ∙ same_state _ Inactive) c.if-eq.false c.in_selection.ensures c.if-in_selection.false in
    let going_on = sym c.is_ended.ensures ∙ c.if-is_ended.false in
    leads c.args.scene.now c.args.new.now c.args.p c.parent_state-parent.ensures c.from_byte-state.ensures c.in-Possible.is
    (simp (begun, going_on, ← c.holds-in-Possible.ensures, c.if-holds-2.false, ← c.satisfiable-else-holds-2.ensures, c.if-not-satisfiable-2.false, c.in-Possible.is))

pub returns-then-orders-2 : goal.returns-then-orders-2
unfolding move_by
returns-then-orders-2 c =
    let begun = neither_passes (c.eq.ensures ∙ same_state _ Inactive) c.if-eq.false c.in_selection.ensures c.if-in_selection.false in
    let going_on = sym c.is_ended.ensures ∙ c.if-is_ended.false in
    leads c.args.scene.now c.args.new.now c.args.p c.parent_state-parent.ensures c.from_byte-state.ensures c.in-Ready.is
    (simp (begun, going_on, ← c.orders-in-Ready.ensures, c.if-orders-2.true))

pub returns-else-orders-2 : goal.returns-else-orders-2
unfolding move_by
returns-else-orders-2 c =
    let begun = neither_passes (c.eq.ensures ∙ same_state _ Inactive) c.if-eq.false c.in_selection.ensures c.if-in_selection.false in
    let going_on = sym c.is_ended.ensures ∙ c.if-is_ended.false in
    leads c.args.scene.now c.args.new.now c.args.p c.parent_state-parent.ensures c.from_byte-state.ensures c.in-Ready.is
    (simp (begun, going_on, ← c.orders-in-Ready.ensures, c.if-orders-2.false, c.in-Ready.is))

pub returns-then-holds-too_many_lost : goal.returns-then-holds-too_many_lost
unfolding move_by
returns-then-holds-too_many_lost c =
    let begun = neither_passes (c.eq.ensures ∙ same_state _ Inactive) c.if-eq.false c.in_selection.ensures c.if-in_selection.false in
    let going_on = sym c.is_ended.ensures ∙ c.if-is_ended.false in
    let lost = c.too_many_lost.ensures c.args.scene.now.old.now (c.requires.facts.children _ c.requires.within) in
    leads c.args.scene.now c.args.new.now c.args.p c.parent_state-parent.ensures c.from_byte-state.ensures c.in-Activated.is
    (simp (begun, going_on, ← c.holds-in-Activated.ensures, ← lost, c.if-holds-too_many_lost.true))

pub returns-then-eq-holds : goal.returns-then-eq-holds
unfolding move_by
returns-then-eq-holds c =
    let begun = neither_passes (c.eq.ensures ∙ same_state _ Inactive) c.if-eq.false c.in_selection.ensures c.if-in_selection.false in
    let going_on = sym c.is_ended.ensures ∙ c.if-is_ended.false in
    let lost = c.too_many_lost.ensures c.args.scene.now.old.now (c.requires.facts.children _ c.requires.within) in
    let suspended = c.eq-else-holds-too_many_lost.ensures ∙ same_state _ Suspended in
    leads c.args.scene.now c.args.new.now c.args.p c.parent_state-parent.ensures c.from_byte-state.ensures c.in-Activated.is
    (simp (begun, going_on, ← c.holds-in-Activated.ensures, ← lost, c.if-holds-too_many_lost.false, ← suspended, ← c.holds-else-holds-too_many_lost.ensures, c.if-eq-holds.true))

pub returns-then-holds-may_complete : goal.returns-then-holds-may_complete
unfolding move_by
returns-then-holds-may_complete c =
    let begun = neither_passes (c.eq.ensures ∙ same_state _ Inactive) c.if-eq.false c.in_selection.ensures c.if-in_selection.false in
    let going_on = sym c.is_ended.ensures ∙ c.if-is_ended.false in
    let lost = c.too_many_lost.ensures c.args.scene.now.old.now (c.requires.facts.children _ c.requires.within) in
    let suspended = c.eq-else-holds-too_many_lost.ensures ∙ same_state _ Suspended in
    let complete = c.may_complete.ensures c.args.scene.now.old.now (c.requires.facts.children _ c.requires.within) in
    leads c.args.scene.now c.args.new.now c.args.p c.parent_state-parent.ensures c.from_byte-state.ensures c.in-Activated.is
    (simp (begun, going_on, ← c.holds-in-Activated.ensures, ← lost, c.if-holds-too_many_lost.false, ← suspended, ← c.holds-else-holds-too_many_lost.ensures, c.if-eq-holds.false, ← c.holds-else-eq-holds.ensures, ← complete, c.if-holds-may_complete.true))

pub returns-else-holds-may_complete : goal.returns-else-holds-may_complete
unfolding move_by
returns-else-holds-may_complete c =
    let begun = neither_passes (c.eq.ensures ∙ same_state _ Inactive) c.if-eq.false c.in_selection.ensures c.if-in_selection.false in
    let going_on = sym c.is_ended.ensures ∙ c.if-is_ended.false in
    let lost = c.too_many_lost.ensures c.args.scene.now.old.now (c.requires.facts.children _ c.requires.within) in
    let suspended = c.eq-else-holds-too_many_lost.ensures ∙ same_state _ Suspended in
    let complete = c.may_complete.ensures c.args.scene.now.old.now (c.requires.facts.children _ c.requires.within) in
    leads c.args.scene.now c.args.new.now c.args.p c.parent_state-parent.ensures c.from_byte-state.ensures c.in-Activated.is
    (simp (begun, going_on, ← c.holds-in-Activated.ensures, ← lost, c.if-holds-too_many_lost.false, ← suspended, ← c.holds-else-holds-too_many_lost.ensures, c.if-eq-holds.false, ← c.holds-else-eq-holds.ensures, ← complete, c.if-holds-may_complete.false, c.in-Activated.is))

pub returns-then-holds-too_many_lost-2 : goal.returns-then-holds-too_many_lost-2
unfolding move_by
returns-then-holds-too_many_lost-2 c =
    let begun = neither_passes (c.eq.ensures ∙ same_state _ Inactive) c.if-eq.false c.in_selection.ensures c.if-in_selection.false in
    let going_on = sym c.is_ended.ensures ∙ c.if-is_ended.false in
    let lost = c.too_many_lost-in-Suspended.ensures c.args.scene.now.old.now (c.requires.facts.children _ c.requires.within) in
    leads c.args.scene.now c.args.new.now c.args.p c.parent_state-parent.ensures c.from_byte-state.ensures c.in-Suspended.is
    (simp (begun, going_on, ← c.holds-in-Suspended.ensures, ← lost, c.if-holds-too_many_lost-2.true))

pub returns-then-eq-holds-2 : goal.returns-then-eq-holds-2
unfolding move_by
returns-then-eq-holds-2 c =
    let begun = neither_passes (c.eq.ensures ∙ same_state _ Inactive) c.if-eq.false c.in_selection.ensures c.if-in_selection.false in
    let going_on = sym c.is_ended.ensures ∙ c.if-is_ended.false in
    let lost = c.too_many_lost-in-Suspended.ensures c.args.scene.now.old.now (c.requires.facts.children _ c.requires.within) in
    let active = c.eq-else-holds-too_many_lost-2.ensures ∙ same_state _ Activated in
    leads c.args.scene.now c.args.new.now c.args.p c.parent_state-parent.ensures c.from_byte-state.ensures c.in-Suspended.is
    (simp (begun, going_on, ← c.holds-in-Suspended.ensures, ← lost, c.if-holds-too_many_lost-2.false, ← active, ← c.holds-else-holds-too_many_lost-2.ensures, c.if-eq-holds-2.true))

pub returns-else-eq-holds-2 : goal.returns-else-eq-holds-2
unfolding move_by
returns-else-eq-holds-2 c =
    let begun = neither_passes (c.eq.ensures ∙ same_state _ Inactive) c.if-eq.false c.in_selection.ensures c.if-in_selection.false in
    let going_on = sym c.is_ended.ensures ∙ c.if-is_ended.false in
    let lost = c.too_many_lost-in-Suspended.ensures c.args.scene.now.old.now (c.requires.facts.children _ c.requires.within) in
    let active = c.eq-else-holds-too_many_lost-2.ensures ∙ same_state _ Activated in
    leads c.args.scene.now c.args.new.now c.args.p c.parent_state-parent.ensures c.from_byte-state.ensures c.in-Suspended.is
    (simp (begun, going_on, ← c.holds-in-Suspended.ensures, ← lost, c.if-holds-too_many_lost-2.false, ← active, ← c.holds-else-holds-too_many_lost-2.ensures, c.if-eq-holds-2.false, c.in-Suspended.is))

pub returns-then-orders-3 : goal.returns-then-orders-3
unfolding move_by
returns-then-orders-3 c =
    let begun = neither_passes (c.eq.ensures ∙ same_state _ Inactive) c.if-eq.false c.in_selection.ensures c.if-in_selection.false in
    let going_on = sym c.is_ended.ensures ∙ c.if-is_ended.false in
    leads c.args.scene.now c.args.new.now c.args.p c.parent_state-parent.ensures c.from_byte-state.ensures c.in-Aborted.is
    (simp (begun, going_on, ← c.orders-in-Aborted.ensures, c.if-orders-3.true))

pub returns-else-orders-3 : goal.returns-else-orders-3
unfolding move_by
returns-else-orders-3 c =
    let begun = neither_passes (c.eq.ensures ∙ same_state _ Inactive) c.if-eq.false c.in_selection.ensures c.if-in_selection.false in
    let going_on = sym c.is_ended.ensures ∙ c.if-is_ended.false in
    leads c.args.scene.now c.args.new.now c.args.p c.parent_state-parent.ensures c.from_byte-state.ensures c.in-Aborted.is
    (simp (begun, going_on, ← c.orders-in-Aborted.ensures, c.if-orders-3.false, c.in-Aborted.is))

pub returns-in-Completed : goal.returns-in-Completed
unfolding move_by
returns-in-Completed c =
    let begun = neither_passes (c.eq.ensures ∙ same_state _ Inactive) c.if-eq.false c.in_selection.ensures c.if-in_selection.false in
    let going_on = sym c.is_ended.ensures ∙ c.if-is_ended.false in
    elim c.in-Completed.is [
      | inl told ↦ leads c.args.scene.now c.args.new.now c.args.p c.parent_state-parent.ensures c.from_byte-state.ensures told (simp (begun, going_on, told))
      | inr told ↦ leads c.args.scene.now c.args.new.now c.args.p c.parent_state-parent.ensures c.from_byte-state.ensures told (simp (begun, going_on, told))
    ]
