-- What a run leaves, where its call has passed the checks. Assumes nothing.
use Rattle.std.specs.Prelude.{ℕ, ◌≡◌, List}
use Rattle.rules.specs.Rest.{after, least_rest, steps_taken, last_causes}
use Rattle.rules.specs.Answers.{rest_answer, Rest}

-- by a rule, from the states s under the words w and a budget
pub record Ran (rule : ℕ) (t s w : List ℕ) (budget : ℕ) (r : Rest) (states causes : List ℕ) : Type 0 where
  pub answer : r ≡ rest_answer (least_rest rule t s w budget)
  pub left : states ≡ after rule t s w (steps_taken rule t s w budget)
  pub told : causes ≡ last_causes rule t s w (steps_taken rule t s w budget)
