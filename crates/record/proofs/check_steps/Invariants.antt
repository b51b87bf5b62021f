-- The loops of `check_steps`: the steps before i pass, and the plans before p are as shown.
use Rattle.std.proofs.Common.{◌≡◌, List, ℕ, ◌<◌, length}
use Rattle.std.specs.Prelude.{Option, None}
use Rattle.rules.specs.Bytes.{byte_at}
use Rattle.rules.specs.Record.{states_before}
use Rattle.rules.specs.Answers.{StepPasses}
use Rattle.children.specs.Sets.{Surveyed}
use Rattle.record.proofs.check_steps.Given as goal

-- among the plans of a step: those before p are as shown
abbrev pub invariant-loop-p : goal.invariant-loop-p
invariant-loop-p l = (l.unexplained ≡ None) × ((k : ℕ) → k < l.p → byte_at l.new k ≡ byte_at l.shown k)

-- among the steps: those before i pass
pub record Passed (rule : ℕ) (t r : List ℕ) (n : ℕ) (sets picks kept new : List ℕ) (unexplained : Option (ℕ × ℕ)) (i : ℕ) : Type 0 where
  pub none : unexplained ≡ None
  pub sets_long : length sets ≡ 2304
  pub picks_long : length picks ≡ 256
  pub kept_long : length kept ≡ 256
  pub new_long : length new ≡ 256
  pub pass : (j : ℕ) → j < i → StepPasses rule t r j
  pub surveyed : Surveyed t (states_before t r i) n sets

abbrev pub invariant-search : goal.invariant-search
invariant-search l = Passed l.rule l.table l.«record» l.n l.sets l.picks l.kept l.new l.unexplained l.i
