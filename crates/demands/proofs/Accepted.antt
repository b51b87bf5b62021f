-- What is known of each step of an accepted record: the states before it and after it pass check 11, and some picks lead from the
-- one to the other. Assumes nothing.
use Prim.Native.Nat.{ℕ, zero, suc, ◌+◌, ◌*◌, ◌<◌}
use native.Mathlib.Omega.{arith}
use mathlib.Core.Path.{◌≡◌, sym, ◌∙◌}
use mathlib.Core.List.{List}
use lib.ListN.{drop}
use lib.Seq.{take_all, take-take}
use Rattle.rules.specs.Table.{plan_count}
use Rattle.rules.specs.Step.{chosen, step_under}
use Rattle.rules.specs.Record.{step_size, words_of, states_of, states_before, ExplainedFirst}
use Rattle.rules.specs.Answers.{rule_check, table_check, record_check, StepPasses, Judged, accepted, Done}
use Rattle.rules.proofs.Outcomes.{first_done, then_done}
use Rattle.demands.specs.PassesStates.{PassesStates}
use Rattle.demands.proofs.Step.{length_step}
use Rattle.demands.proofs.PassedWords.{record_words}
use Rattle.demands.proofs.Valid.{start_passes, step_passes}
use Rattle.std.specs.Prelude.{Ok}

pub table_done : (rule : ℕ) (t r : List ℕ) → record_check rule t r ≡ Done → table_check t ≡ Done
unfolding record_check
table_done rule t r done = first_done (table_check t) _ (then_done (rule_check rule) _ done)

-- picks that explain all states of a step lead to them
module _ (rule : ℕ) (t r : List ℕ) (i : ℕ) (e : ExplainedFirst rule t r i (plan_count t)) where
  whole_step : states_of t r i ≡ step_under rule t (states_before t r i) (words_of t r i) e.pick
  unfolding step_under
  whole_step =
      let n : ℕ = plan_count t in
      let long = length_step rule t (states_before t r i) (words_of t r i) (chosen t (states_before t r i) e.pick) in
      sym (take-take n n (drop (8 + i * step_size t r + 4 * n) r) (omega arith))
      ∙ sym e.agrees
      ∙ take_all n (step_under rule t (states_before t r i) (words_of t r i) e.pick) (omega arith)

-- after steps that pass, the states may be handed in
pub before_passes :
    (rule : ℕ) (t r : List ℕ) → table_check t ≡ Done → (i : ℕ) → ((j : ℕ) → j < i → StepPasses rule t r j)
    → PassesStates t (states_before t r i)
before_passes rule t r done zero before = start_passes t done
before_passes rule t r done (suc i) before =
    let passed = before i (omega arith) in
    let e = passed.states in
    rw (whole_step rule t r i e)
    (step_passes rule t (states_before t r i) (words_of t r i) e.pick done (before_passes rule t r done i (λ j l. before j (omega arith)))
    (record_words t r i passed.words))

pub record AcceptedStep (rule : ℕ) (t r : List ℕ) (i : ℕ) : Type 0 where
  pub pick : ℕ → ℕ
  pub done : table_check t ≡ Done
  pub before : PassesStates t (states_before t r i)
  pub after : PassesStates t (states_of t r i)
  pub leads : states_of t r i ≡ step_under rule t (states_before t r i) (words_of t r i) pick

pub accepted_step :
    (rule : ℕ) (t r : List ℕ) (steps : ℕ) → Judged rule t r (Ok steps) → (i : ℕ) → i < steps → AcceptedStep rule t r i
accepted_step rule t r steps (accepted good passes) i l =
    let e = (passes i l).states in
    let done = table_done rule t r good in
    record {
      pick = e.pick;
      done = done;
      before = before_passes rule t r done i (λ j h. passes j (omega arith));
      after = before_passes rule t r done (suc i) (λ j h. passes j (omega arith));
      leads = whole_step rule t r i e;
    }
