-- Document 01, 'One step', with the bodies of document 02 (i), the rules of (ii), the fallback of (vii) and the causes of (ix): one move,
-- what children's states mean to a plan, what each body orders, one step. Assumes nothing.
use Rattle.std.specs.Prelude.{ℕ, zero, suc, Bool, true, false, cond, not, ◌&&◌, ◌||◌, List, [], ◌∷◌, ◌++◌, get_or}
use Rattle.std.proofs.Math.Dec.{eqb}
use Rattle.rules.specs.Lists.{all, some, first, map_below}
use Rattle.rules.specs.States.{code, cause_code, state_at, one_of, is, in_selection, in_execution, ended, has_run}
use Rattle.rules.specs.Table.{
  plan_count,
  parent,
  entry,
  body_of,
  is_body,
  of_two,
  named,
  retry_aborted,
  wait_for_optional,
  children,
  first_child,
  second_child,
}
use Rattle.rules.specs.WaitFor.{wait_for}
use Rattle.rules.specs.Words.{word, pick_of, if_satisfied, if_satisfiable, holds, satisfiable}
use Rattle.rules.specs.declared.Body.{Body}
use Rattle.rules.specs.declared.Body.TheVariants.{
  Leaf,
  Sequential,
  Parallel,
  AnyOrder,
  Unordered,
  OnAbort,
  OnSuspend,
  OnAbortOrSuspend,
  IfThenElse,
}
use Rattle.rules.specs.declared.Cause.{Cause}
use Rattle.rules.specs.declared.Cause.TheVariants.{Unmoved, Ordered, OwnCondition, ChildrenLost, Forced}
use Rattle.rules.specs.declared.PlanEntry.{PlanEntry}
use Rattle.rules.specs.declared.Orders.{Orders}
use Rattle.rules.specs.declared.Condition.TheVariants.{Filter, Setup, Suspend, Reactivate, Abort, Complete}
use Rattle.rules.specs.declared.PlanState.{PlanState}
use Rattle.rules.specs.declared.PlanState.TheVariants.{
  Inactive,
  Considered,
  Possible,
  Ready,
  Activated,
  Suspended,
  Completed,
  Aborted,
  Rejected,
}

-- One move: document 01's list from the top, and of several lines for one state the first that fits. A line ends in the new state and,
-- by document 02 (ix), the cause; `to` is handed both, and makes the answer of them. The list knows no tree: `parent` is the parent's new
-- state and `o` what the parent orders; `e` and `x` are the plan's entry and word; `lost` says that too many children are lost,
-- `may_complete` that the children let the plan complete.
unfoldable pub move_by :
    {A : Type 0} → (PlanState → Cause → A) → PlanState → Orders → PlanEntry → ℕ → Bool → Bool → PlanState → A
move_by to parent o e x lost may_complete old =
    let stays = to old Unmoved in
    cond (is Inactive parent || in_selection parent) (to Inactive (cond (is Inactive old) Unmoved Forced))
    (cond (ended parent) (cond (in_selection old) (to Rejected Forced) (cond (in_execution old) (to Aborted Forced) stays))
    (elim old [
      | Inactive ↦ cond o.considers (to Considered Ordered) stays
      | Considered ↦
          cond (holds Filter e x) (to Possible OwnCondition) (cond (not (satisfiable Filter e x)) (to Rejected OwnCondition) stays)
      | Possible ↦ cond (holds Setup e x) (to Ready OwnCondition) (cond (not (satisfiable Setup e x)) (to Rejected OwnCondition) stays)
      | Ready ↦ cond o.activates (to Activated Ordered) stays
      | Activated ↦
          cond (holds Abort e x || lost) (to Aborted (cond (holds Abort e x) OwnCondition ChildrenLost))
          (cond (is Suspended parent || holds Suspend e x) (to Suspended (cond (is Suspended parent) Forced OwnCondition))
          (cond (holds Complete e x && may_complete) (to Completed OwnCondition) stays))
      | Suspended ↦
          cond (holds Abort e x || lost) (to Aborted (cond (holds Abort e x) OwnCondition ChildrenLost))
          (cond (is Activated parent && holds Reactivate e x) (to Activated OwnCondition) stays)
      | Completed ↦ stays
      | Rejected ↦ stays
      | Aborted ↦ cond o.retries (to Considered Ordered) stays
    ]))

-- the state that a move leads to, and its cause
abbrev pub the_state : PlanState → Cause → PlanState
the_state state cause = state

abbrev pub the_cause : PlanState → Cause → Cause
the_cause state cause = cause

abbrev pub move : PlanState → Orders → PlanEntry → ℕ → Bool → Bool → PlanState → PlanState
move = move_by the_state

-- Orders.

abbrev pub none : Orders
none = record { considers = false; activates = false; retries = false }

-- a child of two: considered when it is due (`due_of_two`), activated always, never retried
abbrev pub orders_of_two : Bool → Orders
orders_of_two is_due = record { considers = is_due; activates = true; retries = false }

-- what a plan orders one child, by the plan's body: `again` is the plan's retry-aborted, `is_next` says that the child is the first
-- not done, `gate` that the parallel gate is open, `is_chosen` that any-order activates this child, `is_due` that a body of two children
-- considers this one
abbrev pub orders_of : Body → Bool → Bool → Bool → Bool → Bool → Orders
orders_of Leaf again is_next gate is_chosen is_due = none
orders_of Sequential again is_next gate is_chosen is_due = record { considers = is_next; activates = is_next; retries = again && is_next }
orders_of Parallel again is_next gate is_chosen is_due = record { considers = true; activates = gate; retries = again }
orders_of AnyOrder again is_next gate is_chosen is_due = record { considers = true; activates = is_chosen; retries = again }
orders_of Unordered again is_next gate is_chosen is_due = record { considers = true; activates = true; retries = again }
orders_of OnAbort again is_next gate is_chosen is_due = orders_of_two is_due
orders_of OnSuspend again is_next gate is_chosen is_due = orders_of_two is_due
orders_of OnAbortOrSuspend again is_next gate is_chosen is_due = orders_of_two is_due
orders_of IfThenElse again is_next gate is_chosen is_due = orders_of_two is_due

-- a sequential plan is done with a child: Completed, Rejected, or Aborted without retry-aborted
abbrev pub done : Bool → PlanState → Bool
done again state = one_of (Completed ∷ Rejected ∷ []) state || is Aborted state && not again

-- the states in which a child is lost to a plan: Rejected and Aborted; under rule 2, where the plan has retry-aborted (`again`), Rejected
-- only. This is all in which the rules differ
abbrev pub lost_states : ℕ → Bool → List PlanState
lost_states rule again = cond (eqb rule 2 && again) (Rejected ∷ []) (Rejected ∷ Aborted ∷ [])

-- Bodies of two children, by the states of the first and the second.

-- the second is there for an Aborted first
abbrev pub after_abort : Body → Bool
after_abort body = is_body OnAbort body || is_body OnAbortOrSuspend body

-- the second is there for a Suspended first
abbrev pub after_suspend : Body → Bool
after_suspend body = is_body OnSuspend body || is_body OnAbortOrSuspend body

-- the first has taken the turn for which the second is there
abbrev pub bad_turn : Body → PlanState → Bool
bad_turn body first = after_abort body && is Aborted first || after_suspend body && is Suspended first

-- if-then-else with the word x: while both are Inactive, the first is considered if the condition is satisfied, the second if it is not
-- satisfiable
abbrev pub branch_taken : ℕ → Bool → PlanState → PlanState → Bool
branch_taken x is_first first second =
    is Inactive first && is Inactive second && cond is_first (if_satisfied x) (not (if_satisfiable x))

-- a child is considered: of if-then-else by the branch taken, of the others the first always, the second once the first has taken the
-- turn
abbrev pub due_of_two : Body → ℕ → Bool → PlanState → PlanState → Bool
due_of_two body x is_first first second =
    cond (is_body IfThenElse body) (branch_taken x is_first first second) (is_first || bad_turn body first)

-- both count as ended: an Inactive child does when its sibling has ended, except the second beside an Aborted first, on abort and on
-- abort or suspend
abbrev pub both_ended : Body → PlanState → PlanState → Bool
both_ended body first second =
    (ended first || is Inactive first && ended second)
    && (ended second || is Inactive second && ended first && not (after_abort body && is Aborted first))

-- The children of a plan, by the old states s.
module _ (t s : List ℕ) where
  -- the states of the first and the second child
  abbrev pub state_of_first : ℕ → PlanState
  state_of_first q = state_at s (first_child t q)

  abbrev pub state_of_second : ℕ → PlanState
  state_of_second q = state_at s (second_child t q)

  -- by a rule, too many children of plan p are lost: wait-for does not hold of those that are not
  unfoldable pub too_many_lost : ℕ → ℕ → Bool
  too_many_lost rule p = not (wait_for t p (λ c. not (one_of (lost_states rule (retry_aborted (entry t p))) (state_at s c))))

  -- all children are ended; of a body of two, both count as ended
  unfoldable pub all_ended : ℕ → Bool
  all_ended p =
      let body : Body = body_of (entry t p) in
      cond (of_two body) (both_ended body (state_of_first p) (state_of_second p)) (all (λ c. ended (state_at s c)) (children t p))

  -- wait-for holds of the Completed children, and, with wait-for-optional, all children are ended
  unfoldable pub children_complete : ℕ → Bool
  unfolding all_ended
  children_complete p =
      wait_for t p (λ c. is Completed (state_at s c)) && (not (wait_for_optional (entry t p)) || all_ended p)

  -- sequential: the first child not done
  unfoldable pub first_not_done : ℕ → ℕ
  first_not_done q = first (λ c. not (done (retry_aborted (entry t q)) (state_at s c))) (children t q)

  -- parallel: no child is 0, 1 or 2, or some child is 4, 5, 6 or 7
  unfoldable pub gate_open : ℕ → Bool
  gate_open q =
      not (some (λ c. one_of (Inactive ∷ Considered ∷ Possible ∷ []) (state_at s c)) (children t q))
      || some (λ c. has_run (state_at s c)) (children t q)

  -- any-order: no child is in execution and, with retry-aborted, none is Aborted
  unfoldable pub may_activate : ℕ → Bool
  may_activate q =
      not (some (λ c. in_execution (state_at s c)) (children t q))
      && not (retry_aborted (entry t q) && some (λ c. is Aborted (state_at s c)) (children t q))

  -- any-order, where the pick is not Ready (document 02 (vii)): the Ready child of lowest rank among the named ones, and only if there is
  -- none the lowest of the rest; `no_plan` where no child is Ready
  unfoldable pub fallback : ℕ → ℕ
  fallback q =
      let ready : ℕ → Bool = (λ c. is Ready (state_at s c)) in
      let ready_named : ℕ → Bool = (λ c. ready c && named (entry t c)) in
      cond (some ready_named (children t q)) (first ready_named (children t q)) (first ready (children t q))

  -- the Ready child of q of a rank, else another plan, which is handed in
  unfoldable pub ready_or : ℕ → ℕ → ℕ → ℕ
  ready_or other k q =
      let picked : ℕ = get_or (children t q) k other in
      cond (is Ready (state_at s picked)) picked other

  -- any-order: the Ready child whose rank is the pick, else the fallback. A pick is a rank; what is chosen is a plan
  unfoldable pub chosen : (ℕ → ℕ) → ℕ → ℕ
  unfolding fallback ready_or
  chosen pick q = ready_or (fallback q) (pick q) q

  -- two children: plan q, whose word is x, considers its child p
  unfoldable pub due : ℕ → ℕ → ℕ → Bool
  due x q p = due_of_two (body_of (entry t q)) x (eqb p (first_child t q)) (state_of_first q) (state_of_second q)

  -- what plan q, whose word is x, orders its child p to do; `choice` gives the plan that each any-order plan would activate
  unfoldable pub orders : ℕ → (ℕ → ℕ) → ℕ → ℕ → Orders
  unfolding first_not_done gate_open may_activate due
  orders x choice q p =
      orders_of (body_of (entry t q)) (retry_aborted (entry t q)) (eqb p (first_not_done q)) (gate_open q)
      (may_activate q && eqb p (choice q)) (due x q p)

-- what the root is ordered, as if by a parent that considers it when Inactive and activates it when Ready; nobody retries it
abbrev pub root_orders : Orders
root_orders = record { considers = true; activates = true; retries = false }

-- a parent gives orders only in a step where it was and stays Activated
abbrev pub orders_if : List ℕ → List ℕ → List ℕ → (ℕ → ℕ) → PlanState → PlanState → ℕ → ℕ → Orders
orders_if t s w choice parent_old parent_new q p =
    cond (is Activated parent_old && is Activated parent_new) (orders t s (word w q) choice q p) none

-- One step by a rule, from the old states s under the words w.
module _ (rule : ℕ) (t s w : List ℕ) (choice : ℕ → ℕ) where
  -- plan p, given its parent's new state and orders
  abbrev pub moved_by : {A : Type 0} → (PlanState → Cause → A) → PlanState → Orders → ℕ → A
  moved_by to parent_new o p = move_by to parent_new o (entry t p) (word w p) (too_many_lost t s rule p) (children_complete t s p) (state_at s p)

  abbrev pub move_of : PlanState → Orders → ℕ → PlanState
  move_of = moved_by the_state

  -- plan p, where `new` has the new states of the plans before it: its parent's state is read there, all else in s.
  -- The root moves as if under a parent that stays Activated, that considers it when Inactive and activates it when Ready
  abbrev pub new_by : {A : Type 0} → (PlanState → Cause → A) → List ℕ → ℕ → A
  new_by to new zero = moved_by to Activated root_orders 0
  new_by to new (suc k) =
      let q : ℕ = parent t (suc k) in
      moved_by to (state_at new q) (orders_if t s w choice (state_at s q) (state_at new q) q (suc k)) (suc k)

  -- its new state, and why it moved
  abbrev pub new_state : List ℕ → ℕ → PlanState
  new_state = new_by the_state

  abbrev pub new_cause : List ℕ → ℕ → Cause
  new_cause = new_by the_cause

  -- the new states of the first k plans: plans move in table order
  unfoldable pub step_first : ℕ → List ℕ
  step_first zero = []
  step_first (suc k) = let new : List ℕ = step_first k in new ++ (code (new_state new k) ∷ [])

  unfoldable pub step_by : List ℕ
  unfolding step_first
  step_by = step_first (plan_count t)

  -- why each plan moved, where `new` has the new states of all
  unfoldable pub causes_to : List ℕ → List ℕ
  unfolding map_below
  causes_to new = map_below (λ p. cause_code (new_cause new p)) (plan_count t)

-- one step by a rule under picks, and under the picks of the words
unfoldable pub step_under : ℕ → List ℕ → List ℕ → List ℕ → (ℕ → ℕ) → List ℕ
unfolding step_by chosen
step_under rule t s w pick = step_by rule t s w (chosen t s pick)

unfoldable pub step : ℕ → List ℕ → List ℕ → List ℕ → List ℕ
unfolding step_under
step rule t s w = step_under rule t s w (λ q. pick_of (word w q))

-- and its causes: demand 2 fixes them too
unfoldable pub causes : ℕ → List ℕ → List ℕ → List ℕ → List ℕ
unfolding chosen causes_to step
causes rule t s w = causes_to rule t s w (chosen t s (λ q. pick_of (word w q))) (step rule t s w)
