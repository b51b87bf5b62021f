-- Document 01, 'States that may be handed in', with the bodies of document 02 (i). Assumes nothing.
use Rattle.std.specs.Prelude.{ℕ, zero, suc, Bool, true, not, ◌&&◌, ◌||◌, List, ltb}
use Rattle.rules.specs.Lists.{some}
use Rattle.rules.specs.Bytes.{byte_at}
use Rattle.rules.specs.States.{is_code, state_at, is, in_execution, ended, has_run}
use Rattle.rules.specs.Table.{parent, entry, body_of, is_body, retry_aborted, children}
use Rattle.rules.specs.Step.{done}
use Rattle.rules.specs.declared.Body.{Body}
use Rattle.rules.specs.declared.Body.TheVariants.{
  Leaf,
  Sequential,
  Parallel,
  AnyOrder,
  Unordered,
  OnAbort,
  OnSuspend,
  OnAbortOrSuspend,
  IfThenElse,
}
use Rattle.rules.specs.declared.PlanState.{PlanState}
use Rattle.rules.specs.declared.PlanState.TheVariants.{
  Inactive,
  Considered,
  Possible,
  Ready,
  Activated,
  Suspended,
  Completed,
  Aborted,
  Rejected,
}

-- the states that a child may have, its parent being in a given one: under 0, 1, 2, 3 or 8 Inactive; under 6 or 7 Inactive or ended;
-- under Suspended all but Activated
abbrev pub suits : PlanState → PlanState → Bool
suits Inactive child = is Inactive child
suits Considered child = is Inactive child
suits Possible child = is Inactive child
suits Ready child = is Inactive child
suits Activated child = true
suits Suspended child = not (is Activated child)
suits Completed child = is Inactive child || ended child
suits Aborted child = is Inactive child || ended child
suits Rejected child = is Inactive child

-- by the plan's body and retry-aborted, the states of a child behind which a later one may be other than Inactive. Sequential: done. Of
-- two children: Aborted (on abort); 4, 5, 6 or 7 (on suspend, on abort or suspend); Inactive (if-then-else, so that one of them is)
abbrev pub lets_later : Body → Bool → PlanState → Bool
lets_later Leaf again state = true
lets_later Sequential again state = done again state
lets_later Parallel again state = true
lets_later AnyOrder again state = true
lets_later Unordered again state = true
lets_later OnAbort again state = is Aborted state
lets_later OnSuspend again state = has_run state
lets_later OnAbortOrSuspend again state = has_run state
lets_later IfThenElse again state = is Inactive state

module _ (t s : List ℕ) where
  -- some child of q before p passes a test
  abbrev pub some_before : ℕ → ℕ → (PlanState → Bool) → Bool
  some_before q p f = some (λ c. ltb c p && f (state_at s c)) (children t q)

  -- child p of q is in execution, and a lower one is too
  abbrev pub runs_beside : ℕ → ℕ → Bool
  runs_beside q p = in_execution (state_at s p) && some_before q p in_execution

  -- child p of q is other than Inactive behind a lower one that does not let it be, by q's body
  abbrev pub too_early : Body → ℕ → ℕ → Bool
  too_early body q p =
      not (is Inactive (state_at s p)) && some_before q p (λ state. not (lets_later body (retry_aborted (entry t q)) state))

  -- child p of q breaks the rule of q's body together with a lower child
  abbrev pub breaks_body : Body → ℕ → ℕ → Bool
  breaks_body body q p = is_body AnyOrder body && runs_beside q p || too_early body q p

  -- child p of q breaks a rule together with lower plans
  abbrev pub breaks_under : ℕ → ℕ → Bool
  breaks_under q p = not (suits (state_at s q) (state_at s p)) || breaks_body (body_of (entry t q)) q p

  -- plan p breaks a rule together with lower plans
  unfoldable pub bad_state : ℕ → Bool
  bad_state zero = not (is_code (byte_at s 0))
  bad_state (suc k) = not (is_code (byte_at s (suc k))) || breaks_under (parent t (suc k)) (suc k)
