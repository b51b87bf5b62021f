-- Document 01, 'Record': where a step's words and states lie, and what it is for picks to explain them. Assumes nothing.
use Rattle.std.specs.Prelude.{ℕ, zero, suc, ◌+◌, ◌*◌, ◌-◌, ◌/◌, ◌<◌, ◌≡◌, List, length, take, drop, replicate, T}
use Rattle.rules.specs.States.{code}
use Rattle.rules.specs.Table.{plan_count, entry, body_of, children}
use Rattle.rules.specs.Words.{pick_allowed}
use Rattle.rules.specs.Step.{chosen, step_by}
use Rattle.rules.specs.declared.PlanState.TheVariants.{Inactive}

-- How any-order plans choose: by table, old states and picks, the plan that each would activate. Wherever it is not said, as `chosen`: only
-- the theorem of document 02 (vii) sets another way beside it.
abbrev pub Choosing : Type 0
Choosing = List ℕ → List ℕ → (ℕ → ℕ) → ℕ → ℕ

-- Some picks that words may hold lead by a rule from the states s, under the words w, to the states shown, as far as the first k plans go.
pub record ExplainedBy (choosing : Choosing) (rule : ℕ) (t s w shown : List ℕ) (k : ℕ) : Type 0 where
  pub pick : ℕ → ℕ
  pub allowed : (q : ℕ) → q < plan_count t → T (pick_allowed (body_of (entry t q)) (length (children t q)) (pick q))
  pub agrees : take k (step_by rule t s w (choosing t s pick)) ≡ take k shown

abbrev pub Explained : ℕ → List ℕ → List ℕ → List ℕ → List ℕ → ℕ → Type 0
Explained = ExplainedBy chosen

-- A treatment record r under a table t. Its steps i are counted from 0 here; an answer names step i as i + 1.
module _ (t r : List ℕ) where
  -- the bytes of a step: 4n of words and n of states
  abbrev pub step_size : ℕ
  step_size = 5 * plan_count t

  abbrev pub step_count : ℕ
  step_count = (length r - 8) / step_size

  -- the words of step i, and the states after it, as parts of the record's bytes
  abbrev pub words_of : ℕ → List ℕ
  words_of i = take (4 * plan_count t) (drop (8 + i * step_size) r)

  abbrev pub states_of : ℕ → List ℕ
  states_of i = take (plan_count t) (drop (8 + i * step_size + 4 * plan_count t) r)

  -- the states before step i: the record starts with all plans Inactive (demand 3)
  abbrev pub states_before : ℕ → List ℕ
  states_before zero = replicate (plan_count t) (code Inactive)
  states_before (suc i) = states_of i

-- by a rule, some picks explain the first k plans in step i
abbrev pub ExplainedFirstBy : Choosing → ℕ → List ℕ → List ℕ → ℕ → ℕ → Type 0
ExplainedFirstBy choosing rule t r i k = ExplainedBy choosing rule t (states_before t r i) (words_of t r i) (states_of t r i) k

abbrev pub ExplainedFirst : ℕ → List ℕ → List ℕ → ℕ → ℕ → Type 0
ExplainedFirst = ExplainedFirstBy chosen
