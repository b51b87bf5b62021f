-- Document 02 (vi): two tables under which reading, steps, runs, sub trees and verdicts are the same. Assumes nothing.
use Rattle.std.specs.Prelude.{ℕ, ◌≡◌, List}
use Rattle.rules.specs.Answers.{table_verdict, step_answer, step_states, step_causes, run_answer, run_states, run_causes, Judged, Verdict}
use Rattle.rules.specs.SubTree.{sub_tree}

-- Reading the table answers the same. By any rule number, from any states and words, a step answers the same and leaves the same states and
-- causes; so does a run, within any budget. Every plan's sub tree shows the same of any states. The same verdicts are permitted on any
-- record.
pub record SameCalls (t u : List ℕ) : Type 0 where
  pub table_verdict_same : table_verdict u ≡ table_verdict t
  pub step_answer_same : (rule : ℕ) (s w c : List ℕ) → step_answer rule u s w c ≡ step_answer rule t s w c
  pub step_states_same : (rule : ℕ) (s w c : List ℕ) → step_states rule u s w c ≡ step_states rule t s w c
  pub step_causes_same : (rule : ℕ) (s w c : List ℕ) → step_causes rule u s w c ≡ step_causes rule t s w c
  pub run_answer_same : (rule : ℕ) (s w c : List ℕ) (budget : ℕ) → run_answer rule u s w c budget ≡ run_answer rule t s w c budget
  pub run_states_same : (rule : ℕ) (s w c : List ℕ) (budget : ℕ) → run_states rule u s w c budget ≡ run_states rule t s w c budget
  pub run_causes_same : (rule : ℕ) (s w c : List ℕ) (budget : ℕ) → run_causes rule u s w c budget ≡ run_causes rule t s w c budget
  pub sub_trees : (s : List ℕ) (p : ℕ) → sub_tree u s p ≡ sub_tree t s p
  pub verdicts :
      (rule : ℕ) (r : List ℕ) (v : Verdict) → (Judged rule t r v → Judged rule u r v) × (Judged rule u r v → Judged rule t r v)
