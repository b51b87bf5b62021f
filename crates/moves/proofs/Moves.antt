-- How one plan's move comes from what is known of it and of its parent. Assumes nothing.
use Prim.Native.Nat.{ℕ, zero, suc, ◌+◌, ◌*◌, ◌≤◌, ◌<◌}
use native.Mathlib.Omega.{arith}
use mathlib.Core.Path.{◌≡◌, refl, sym}
use mathlib.Core.Bool.{Bool, false, ◌||◌}
use mathlib.Core.List.{List, [], ◌∷◌}
use denote.Enum.Declared.{tag_of}
use types.Run.{OneOf, miss}
use lib.ListN.{length}
use Rattle.rules.specs.Bytes.{byte_at}
use Rattle.rules.specs.States.{code, state_of, state_at, is, in_selection, ended}
use Rattle.rules.specs.Table.{plan_count, parent, entry}
use Rattle.rules.specs.Words.{word}
use Rattle.rules.specs.Step.{move_by, the_state, move, too_many_lost, children_complete, moved_by, new_by, new_state}
use Rattle.rules.specs.declared.Cause.{Cause}
use Rattle.rules.specs.declared.PlanEntry.{PlanEntry}
use Rattle.rules.specs.declared.Orders.{Orders}
use Rattle.rules.specs.declared.PlanState.{PlanState}
use Rattle.rules.specs.declared.PlanState.TheVariants.{
  Inactive,
  Considered,
  Possible,
  Ready,
  Activated,
  Suspended,
  Completed,
  Aborted,
  Rejected,
}
use Rattle.rules.specs.contracts.PlanState as declared
use Rattle.rules.proofs.Codes.{state_is}
use Rattle.family.specs.OrdersAt.{orders_at}
use Rattle.family.specs.StepFacts.{StepFacts, Names}
use Rattle.moves.specs.Parents.{parent_state}
use Rattle.moves.specs.MoveFacts.{MoveFacts}

-- the state of a child's parent, from what the code has in hand
pub parent_of_child :
    (t states : List ℕ) (q p : ℕ) → 0 < p → q ≡ parent t p → state_of (byte_at states q) ≡ parent_state t states p
parent_of_child t states q zero h e = absurd (omega arith)
parent_of_child t states q (suc p) h e = rw e (sym (state_is states (parent t (suc p))))

module _ (t s w : List ℕ) (choice : ℕ → ℕ) where
  -- the new state of a plan and its cause, the root's as of a child
  pub new_by_lem :
      {A : Type 0} (to : PlanState → Cause → A) (rule : ℕ) (new : List ℕ) (p : ℕ)
      → new_by rule t s w choice to new p
      ≡ moved_by rule t s w choice to (parent_state t new p) (orders_at t s w choice (parent_state t new p) p) p
  new_by_lem to rule new zero = refl
  new_by_lem to rule new (suc p) = refl

  -- and as a move, from what the code has in hand
  pub as_move :
      (rule : ℕ) (new : List ℕ) (p : ℕ) (up old : PlanState) → up ≡ parent_state t new p → old ≡ state_at s p
      → new_state rule t s w choice new p
      ≡ move up (orders_at t s w choice up p) (entry t p) (word w p) (too_many_lost t s rule p) (children_complete t s p) old
  as_move rule new p up old eu eo = rw (eu, eo) (new_by_lem the_state rule new p)

-- under a parent in execution a Completed or Rejected plan stays
abbrev over_keys : List ℕ
over_keys = code Completed ∷ code Rejected ∷ []

module _
    (up : PlanState) (o : Orders) (e : PlanEntry) (x : ℕ) (lost complete : Bool)
    (begun : (is Inactive up || in_selection up) ≡ false) (going_on : ended up ≡ false) where
  pub over_stays : (old : PlanState) → OneOf over_keys (tag_of declared.the_type old) → move up o e x lost complete old ≡ old
  unfolding move_by
  over_stays Inactive h = absurd (miss over_keys 0 tt h)
  over_stays Considered h = absurd (miss over_keys 1 tt h)
  over_stays Possible h = absurd (miss over_keys 2 tt h)
  over_stays Ready h = absurd (miss over_keys 3 tt h)
  over_stays Activated h = absurd (miss over_keys 4 tt h)
  over_stays Suspended h = absurd (miss over_keys 5 tt h)
  over_stays Completed h = rw (begun, going_on) refl
  over_stays Aborted h = absurd (miss over_keys 7 tt h)
  over_stays Rejected h = rw (begun, going_on) refl

-- all that the move of a plan reads, from what is known of all plans
pub move_facts :
    (t s ranks names sets picks w new : List ℕ) → StepFacts t s ranks sets picks → Names t names → (n : ℕ) → n ≡ plan_count t → (p : ℕ)
    → p < plan_count t → p ≤ length new → 4 * p + 4 ≤ length w → MoveFacts t n s ranks names sets picks w new p
move_facts t s ranks names sets picks w new facts named n whole p within new_room word_room =
    let entry_room : 8 * p + 16 ≤ length t = omega (arith, facts.long) in
    record {
      facts = facts;
      named = named.words;
      within = within;
      own = record { entry_room = entry_room; word_room = word_room };
      children =
          record {
            entry_room = entry_room;
            waits =
                record {
                  table = rw whole named.waiting;
                  within = omega arith;
                  names_room = omega (arith, named.room);
                  collected = named.words.collected p within;
                  number = rw whole (named.numbers p within);
                };
            has_words = record { small = omega (arith, facts.small); sets_room = omega (arith, facts.sets_room) };
          };
      parent_room = λ h. omega (arith, facts.down p h within);
    }
