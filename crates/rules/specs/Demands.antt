-- Demand 3's last rules, as what is promised of each step of an accepted record, s being the states before it and shown those after
-- it. Assumes nothing.
use Rattle.std.specs.Prelude.{ℕ, ◌<◌, Bool, ◌||◌, ◌≡◌, ◌⊎◌, List, T}
use Rattle.rules.specs.States.{state_at, in_execution, ended}
use Rattle.rules.specs.Table.{plan_count, entry, body_of, is_body, is_child, is_or_is_above}
use Rattle.rules.specs.declared.Body.{Body}
use Rattle.rules.specs.declared.Body.TheVariants.{Sequential, AnyOrder, OnAbort, IfThenElse}
use Rattle.rules.specs.declared.PlanState.TheVariants.{Considered, Activated, Aborted}

-- bodies of which at most one child is in execution
abbrev pub one_at_a_time : Body → Bool
one_at_a_time body = is_body Sequential body || is_body AnyOrder body || is_body OnAbort body || is_body IfThenElse body

-- p is a child of q, in demand 3's words a sub plan
pub record SubPlan (t : List ℕ) (q p : ℕ) : Type 0 where
  pub within : p < plan_count t
  pub child : T (is_child t q p)

-- a is plan p or a plan above it, and was retried: it went from Aborted to Considered
pub record Retried (t s shown : List ℕ) (a p : ℕ) : Type 0 where
  pub is_or_above : T (is_or_is_above t a p p)
  pub was : state_at s a ≡ Aborted
  pub now : state_at shown a ≡ Considered

-- of the children of a sequential, any-order, on abort or if-then-else plan at most one is in execution
abbrev pub AtMostOne : List ℕ → List ℕ → Type 0
AtMostOne t shown =
    (q c d : ℕ) → T (one_at_a_time (body_of (entry t q))) → SubPlan t q c → SubPlan t q d → T (in_execution (state_at shown c))
    → T (in_execution (state_at shown d)) → c ≡ d

-- a child is Activated only while its parent is Activated
abbrev pub OnlyWhileParent : List ℕ → List ℕ → Type 0
OnlyWhileParent t shown = (q c : ℕ) → SubPlan t q c → state_at shown c ≡ Activated → state_at shown q ≡ Activated

-- an ended plan keeps its ending unless it, or a plan above it, was retried
abbrev pub EndingsKept : List ℕ → List ℕ → List ℕ → Type 0
EndingsKept t s shown =
    (p : ℕ) → p < plan_count t → T (ended (state_at s p)) → (state_at shown p ≡ state_at s p) ⊎ ((a : ℕ) × Retried t s shown a p)
