-- From a call that passes to what the plans' moves read: the words of a survey are those of each plan's children. Assumes nothing.
use Prim.Native.Nat.{ℕ, zero, suc, ◌*◌, ◌≤◌, ◌<◌}
use native.Mathlib.Omega.{arith}
use mathlib.Core.Path.{◌≡◌, refl, sym, ap, ◌∙◌}
use mathlib.Core.Bool.{true, false}
use mathlib.Core.List.{List}
use lib.Dec.{eqb}
use lib.ListN.{length, take}
use borrow.Author.Tests.{ltb-true, not-false}
use Rattle.rules.specs.Bytes.{byte_at}
use Rattle.rules.specs.States.{code, is_code, state_at, is}
use Rattle.rules.specs.Table.{plan_count, parent, children}
use Rattle.rules.specs.Words.{word, pick_of}
use Rattle.rules.specs.Step.{step_under, step}
use Rattle.rules.specs.HandedIn.{bad_state, breaks_under}
use Rattle.rules.specs.declared.PlanState.{PlanState}
use Rattle.rules.proofs.Codes.{state_is, code_lt, test_code}
use Rattle.rules.proofs.Tree.{or_left, Passes, passes, Tree, tree}
use Rattle.children.specs.Sets.{set_before, set_of, Empty, Codes, Rooted, Narrow, Surveyed}
use Rattle.children.proofs.Kin.{same_set, few_children}
use Rattle.demands.proofs.PlanByPlan.{same_picks}
use Rattle.demands.proofs.TwoChildren.{two_children}
use Rattle.family.specs.ChildWords.{ChildWords}
use Rattle.formulas.proofs.Formed.{plans_within, waiting}
use Rattle.family.specs.StepFacts.{picks_of, StepFacts, Names}
use Rattle.moves.specs.MoveFacts.{CauseFacts}
use Rattle.lent.specs.Calls.{MayMove}
use Rattle.lent.proofs.Calls.{rooted}
use Rattle.pass.specs.Taken.{Taken}

-- a state is tested by its byte
state_test : (s : List ℕ) (c : ℕ) → byte_at s c < 9 → (x : PlanState) → eqb (byte_at s c) (code x) ≡ is x (state_at s c)
state_test s c l x = test_code x (byte_at s c) l ∙ ap (is x) (sym (state_is s c))

module _ (t s w ranks names : List ℕ) (moves : MayMove t s w ranks names) (n : ℕ) (whole : n ≡ plan_count t) where
  passed : Passes t
  passed = passes t moves.prepared.done

  shape : Tree t
  shape = tree t passed

  pub known_names : Names t names
  known_names =
      record {
        waiting = waiting t (plan_count t) refl shape.small passed.long passed.formulas;
        room = moves.prepared.names_room;
        words = record { room = omega (arith, moves.prepared.names_room); collected = moves.prepared.collected };
        numbers = moves.prepared.numbers;
      }

  pub narrow : Narrow t n ranks
  narrow =
      record {
        some = omega (arith, shape.some);
        ranked = λ p l. moves.prepared.ranked p (omega arith);
        narrow = λ p l. shape.narrow p (omega arith);
      }

  code_at : (p : ℕ) → bad_state t s p ≡ false → is_code (byte_at s p) ≡ true
  unfolding bad_state
  code_at zero e = not-false (is_code (byte_at s 0)) e
  code_at (suc k) e = not-false (is_code (byte_at s (suc k))) (or_left _ (breaks_under t s (parent t (suc k)) (suc k)) e)

  pub codes : Codes n s
  codes p l = ltb-true (byte_at s p) 9 (code_at p (moves.passes.unbroken p (omega arith)))

  rank_room : n ≤ length ranks
  rank_room = omega (arith, moves.prepared.ranks_room)

  state_room : n ≤ length s
  state_room = omega (arith, moves.passes.long)

  -- the plans may be surveyed
  pub may_survey :
      (sets : List ℕ) → n * 9 ≤ length sets → Empty (n * 9) sets
      → Rooted t n
      × (Narrow t n ranks
      × (Codes n s × (((n ≤ length ranks) × (n ≤ length s) × (n * 9 ≤ length sets)) × Empty (n * 9) sets)))
  may_survey sets room empty =
      (rooted t moves.prepared.done n whole, (narrow, (codes, ((rank_room, state_room, room), empty))))

  module _ (sets : List ℕ) (surveyed : Surveyed t s n sets) (room : n * 9 ≤ length sets) where
    child_words : (q : ℕ) → q < plan_count t → ChildWords t s q sets
    unfolding set_of children
    child_words q l =
        record {
          small = shape.small;
          few = few_children t (plan_count t) shape.narrow q (plan_count t) (omega arith);
          two = two_children t passed q l;
          word =
              λ x.
              surveyed.word q (code x) (omega arith) (code_lt x)
              ∙ same_set t q _ _ n (λ c i child. state_test s c (codes c i) x)
              ∙ ap (λ (k : ℕ). set_before t k q (λ c. is x (state_at s c))) whole;
        }

    pub step_facts :
        (picks : List ℕ) → n ≤ length picks → ((q : ℕ) → q < n → picks_of picks q < 64) → StepFacts t s ranks sets picks
    step_facts picks picks_room small =
        record {
          some = shape.some;
          small = shape.small;
          long = plans_within t passed.long;
          states_room = omega (arith, moves.passes.long);
          ranks_room = moves.prepared.ranks_room;
          sets_room = omega arith;
          picks_room = omega arith;
          down = shape.down;
          ranked = moves.prepared.ranked;
          children = child_words;
          picks_small = λ q l. small q (omega arith);
        }

  -- once their new states are worked out, it may be told why they move, and they may be moved
  pub may_tell : (new : List ℕ) → n ≤ length new → (p : ℕ) → p < n → CauseFacts t s w new p
  may_tell new room p l =
      record {
        own = record { entry_room = omega (arith, plans_within t passed.long); word_room = omega (arith, moves.words) };
        old_room = omega (arith, state_room);
        new_room = omega arith;
        parent_room = λ h. omega (arith, shape.down p h (omega arith));
      }

  pub may_take :
      (new : List ℕ) (m : ℕ) → n ≤ length new → m ≡ n → ((p : ℕ) → p < m → CauseFacts t s w new p) × (length s ≤ length new)
  may_take new m room e = (λ p l. may_tell new room p (omega arith), omega (arith, moves.passes.long))

  -- picks that are taken from the words
  module _ (picks : List ℕ) (taken : Taken w n picks) where
    pub taken_small : (q : ℕ) → q < n → picks_of picks q < 64
    taken_small q l = omega (arith, taken.taken q l)

    -- under them the step is the words' own
    pub taken_step : (rule : ℕ) → step_under rule t s w (picks_of picks) ≡ step rule t s w
    unfolding step
    taken_step rule = same_picks rule t s w shape (picks_of picks) (λ q. pick_of (word w q)) (λ q l. taken.taken q (omega arith))

-- after they have moved to other states that pass, what changed may be moved in the words
pub may_resurvey :
    (t s w ranks names : List ℕ) → MayMove t s w ranks names → (new : List ℕ) → MayMove t new w ranks names → (n : ℕ)
    → n ≡ plan_count t → (sets : List ℕ) → Surveyed t s n sets → n * 9 ≤ length sets
    → Rooted t n
    × (Narrow t n ranks
    × (((p : ℕ) → p < n → (byte_at s p < 9) × (byte_at new p < 9))
    × (((n ≤ length ranks) × (n ≤ length s) × (n ≤ length new) × (n * 9 ≤ length sets)) × Surveyed t s n sets)))
may_resurvey t s w ranks names moves new moves_new n whole sets surveyed room = (
  rooted t moves.prepared.done n whole,
  (
    narrow t s w ranks names moves n whole,
    (
      λ p l. (codes t s w ranks names moves n whole p l, codes t new w ranks names moves_new n whole p l),
      (
        (
          rank_room t s w ranks names moves n whole,
          state_room t s w ranks names moves n whole,
          state_room t new w ranks names moves_new n whole,
          room,
        ),
        surveyed,
      ),
    ),
  ),
)

-- the part of a list for n plans is that for the table's
pub part_of_all : (n k : ℕ) (xs ys : List ℕ) → n ≡ k → take n xs ≡ ys → take k xs ≡ ys
part_of_all n k xs ys e h = rw e at h

-- and so is its survey
pub surveyed_part :
    (t : List ℕ) (n k : ℕ) (xs s sets : List ℕ) → k ≡ n → s ≡ take k xs → Surveyed t (take n xs) n sets → Surveyed t s n sets
surveyed_part t n k xs s sets e h surveyed = rw (h, e) surveyed
