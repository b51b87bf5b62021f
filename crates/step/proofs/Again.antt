-- What `step` and `rest` leave may be handed in again: it passes check 11, and every call passes whose words would have passed before.
-- Assumes nothing.
use Prim.Native.Nat.{ℕ, ◌*◌}
use mathlib.Core.Path.{◌≡◌, refl, ◌∙◌}
use mathlib.Core.Bool.{false}
use mathlib.Core.List.{List}
use lib.ListN.{length}
use borrow.Author.Tests.{eq-eqb}
use Rattle.rules.specs.Table.{plan_count}
use Rattle.rules.specs.Rest.{after, steps_taken}
use Rattle.rules.specs.HandedIn.{bad_state}
use Rattle.rules.specs.Answers.{wrong_lengths, rule_check, table_check, lent_check, call_check, step_states, run_states, Done}
use Rattle.rules.proofs.Outcomes.{first_done, then_done, pass, pass_at, then_next}
use Rattle.std.specs.Prelude.{None}
use Rattle.lowest.proofs.Lowest.{lowest_is}
use Rattle.demands.specs.PassesStates.{PassesStates}
use Rattle.demands.proofs.PassedCall.{table_passes, lent_passes, lengths, handed_in, words_in, after_passes}

module _ (rule : ℕ) (t s w c : List ℕ) (done : call_check rule t s w c ≡ Done) where
  -- with the same words, other states that pass check 11 are as good
  other_states : (x : List ℕ) → PassesStates t x → call_check rule t x w c ≡ Done
  unfolding call_check lent_check
  other_states x passes =
      let n : ℕ = plan_count t in
      let long = lengths rule t s w c done in
      let same_length : wrong_lengths t x w c ≡ false =
      rw (
        eq-eqb (length x) n passes.long,
        eq-eqb (length w) (4 * n) long.1,
        eq-eqb (length c) n long.2,
      ) refl in
      let none = lowest_is (bad_state t x) n None passes.unbroken in
      then_next (rule_check rule) _ (first_done (rule_check rule) _ done)
      ∙ then_next (table_check t) _ (table_passes rule t s w c done)
      ∙ pass _ _ _ same_length
      ∙ pass_at _ _ _ none
      ∙ then_done _ _ (then_done _ _ (lent_passes rule t s w c done))

  still_passes : (k : ℕ) → PassesStates t (after rule t s w k)
  still_passes = after_passes rule t s w (table_passes rule t s w c done) (handed_in rule t s w c done) (words_in rule t s w c done)

  step_leaves : PassesStates t (step_states rule t s w c)
  unfolding after
  step_leaves = rw (step_states, done) (still_passes 1)

  run_leaves : (budget : ℕ) → PassesStates t (run_states rule t s w c budget)
  unfolding run_states
  run_leaves budget = rw (run_states, done) (still_passes (steps_taken rule t s w budget))

pub left_again :
    (rule rule' : ℕ) (t s w c v d : List ℕ) → call_check rule t s w c ≡ Done → call_check rule' t s v d ≡ Done
    → (call_check rule' t (step_states rule t s w c) v d ≡ Done)
    × ((budget : ℕ) → call_check rule' t (run_states rule t s w c budget) v d ≡ Done)
left_again rule rule' t s w c v d done next = (
  other_states rule' t s v d next (step_states rule t s w c) (step_leaves rule t s w c done),
  λ budget. other_states rule' t s v d next (run_states rule t s w c budget) (run_leaves rule t s w c done budget),
)
