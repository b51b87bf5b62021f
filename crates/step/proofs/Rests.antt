-- Laws of the run to rest: what is known while no step has been without change, and what ends it. Assumes nothing.
use Prim.Native.Nat.{ℕ, suc, ◌+◌, ◌≤◌, ◌<◌}
use native.Mathlib.Omega.{arith}
use native.Mathlib.Numerals.{add-one}
use mathlib.Core.Path.{◌≡◌, refl, sym, ap, ◌∙◌}
use mathlib.Core.Bool.{Bool, true, false}
use mathlib.Core.List.{List}
use borrow.Author.Count.{below_none, below_more}
use lib.ListN.{replicate}
use Rattle.rules.specs.Lists.{same}
use Rattle.rules.specs.Table.{plan_count}
use Rattle.rules.specs.Step.{step, causes as causes_of_step}
use Rattle.rules.specs.Rest.{after, settled, least_rest, steps_taken, last_causes}
use Rattle.rules.specs.Answers.{call_check, rest_answer, run_answer, run_states, run_causes, Rest, Done}
use Rattle.rules.specs.declared.Refusal.{Refusal}
use Rattle.lowest.proofs.Lowest.{lowest_is}
use Rattle.demands.specs.BranchesAgree.{BranchesAgree}
use Rattle.demands.proofs.PassedCall.{after_passes}
use Rattle.lent.specs.Calls.{MayMove}
use Rattle.step.specs.Runs.{Ran}
use Rattle.std.specs.Prelude.{Ok, Err, Some, None}

-- after k steps, none of which was without change, the states are these, and the causes those of the last one
pub record Running (rule : ℕ) (t s w : List ℕ) (k : ℕ) (states causes : List ℕ) : Type 0 where
  pub is : states ≡ after rule t s w k
  pub told : causes ≡ last_causes rule t s w k
  pub moved : (j : ℕ) → j < k → settled rule t s w j ≡ false

module _ (rule : ℕ) (t s w ranks names : List ℕ) (moves : MayMove t s w ranks names) (words : BranchesAgree t w) where
  moves_after : (k : ℕ) → MayMove t (after rule t s w k) w ranks names
  moves_after k =
      record {
        prepared = moves.prepared;
        passes = after_passes rule t s w moves.prepared.done moves.passes words k;
        words = moves.words;
      }

  pub moves_still : (k : ℕ) (states causes : List ℕ) → Running rule t s w k states causes → MayMove t states w ranks names
  moves_still k states causes running = rw running.is (moves_after k)

module _ (rule : ℕ) (t s w : List ℕ) where
  pub running_none : (causes : List ℕ) → causes ≡ replicate (plan_count t) 0 → Running rule t s w 0 s causes
  unfolding after last_causes
  running_none causes e = record { is = refl; told = e; moved = below_none _ }

  module _ (k : ℕ) (states causes : List ℕ) (running : Running rule t s w k states causes) where
    now_settled : (b : Bool) → b ≡ same (step rule t states w) states → settled rule t s w k ≡ b
    now_settled b e = ap (λ (x : List ℕ). same (step rule t x w) x) (sym running.is) ∙ sym e

    pub running_next :
        (next why : List ℕ) → same (step rule t states w) states ≡ false → next ≡ step rule t states w → why ≡ causes_of_step rule t states w
        → Running rule t s w (k + 1) next why
    unfolding after last_causes
    running_next next why e h told =
        record {
          is = h ∙ ap (λ (x : List ℕ). step rule t x w) running.is ∙ ap (after rule t s w) (sym (add-one k));
          told =
              told ∙ ap (λ (x : List ℕ). causes_of_step rule t x w) running.is ∙ ap (last_causes rule t s w) (sym (add-one k));
          moved = below_more (λ (j : ℕ). settled rule t s w j ≡ false) k running.moved (now_settled false (sym e));
        }

    -- the run ends: here
    pub rests :
        (budget : ℕ) → k ≤ budget → same (step rule t states w) states ≡ true → Ran rule t s w budget (Ok (Some k)) states causes
    unfolding least_rest
    rests budget l e =
        let found =
        lowest_is (settled rule t s w) (suc budget) (Some k) (omega arith, now_settled true (sym e), running.moved)
        in
        record {
          answer = rw (found, rest_answer) refl;
          left = rw (steps_taken, found) running.is;
          told = rw (steps_taken, found) running.told;
        }

    -- or the budget does
    pub moves :
        (budget : ℕ) → k ≡ budget → same (step rule t states w) states ≡ false → Ran rule t s w budget (Ok None) states causes
    unfolding least_rest
    moves budget l e =
        let none =
        lowest_is (settled rule t s w) (suc budget) None
        (λ j h. below_more (λ (i : ℕ). settled rule t s w i ≡ false) k running.moved (now_settled false (sym e)) j (omega arith))
        in
        record {
          answer = rw (none, rest_answer) refl;
          left = rw (steps_taken, none) (running.is ∙ ap (after rule t s w) l);
          told = rw (steps_taken, none) (running.told ∙ ap (last_causes rule t s w) l);
        }

-- what the run answers and leaves
module _ (rule : ℕ) (t s w c : List ℕ) (budget : ℕ) where
  abbrev Left : Rest → List ℕ → List ℕ → Type 0
  Left r states told =
      (r ≡ run_answer rule t s w c budget) × (states ≡ run_states rule t s w c budget) × (told ≡ run_causes rule t s w c budget)

  pub run_refused : (why : Refusal) → call_check rule t s w c ≡ Err why → Left (Err why) s c
  unfolding run_answer run_states run_causes
  run_refused why e = (rw (e, run_answer) refl, rw (e, run_states) refl, rw (e, run_causes) refl)

  pub run_done :
      (r : Rest) (states told : List ℕ) → call_check rule t s w c ≡ Done → Ran rule t s w budget r states told
      → Left r states told
  unfolding run_answer run_states run_causes
  run_done r states told e ran =
      (rw (e, run_answer) ran.answer, rw (e, run_states) ran.left, rw (e, run_causes) ran.told)
