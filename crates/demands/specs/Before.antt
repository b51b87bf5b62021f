-- Document 02 (vii): how any-order plans chose before it, and the verdicts that were permitted then. This is history: nothing uses it but
-- the theorem that no verdict has changed. Assumes nothing.
use Rattle.std.specs.Prelude.{ℕ, List}
use Rattle.rules.specs.Lists.{first}
use Rattle.rules.specs.States.{state_at, is}
use Rattle.rules.specs.Table.{children}
use Rattle.rules.specs.Step.{ready_or}
use Rattle.rules.specs.Record.{Choosing}
use Rattle.rules.specs.Answers.{JudgedBy, Verdict}
use Rattle.rules.specs.declared.PlanState.TheVariants.{Ready}

-- document 01: the Ready child whose rank is the pick, else the Ready child of lowest rank, named or not
unfoldable pub chosen_before : Choosing
unfolding ready_or
chosen_before t s pick q = ready_or t s (first (λ c. is Ready (state_at s c)) (children t q)) (pick q) q

abbrev pub JudgedBefore : ℕ → List ℕ → List ℕ → Verdict → Type 0
JudgedBefore = JudgedBy chosen_before
