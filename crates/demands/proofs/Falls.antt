-- Where the premises of document 02 (viii) hold, a step never raises the moves left to a plan, and lowers them where the plan moves.
-- Assumes nothing.
use Prim.Native.Nat.{ℕ, zero, suc, ◌≤◌, ◌<◌}
use native.Mathlib.Omega.{arith}
use mathlib.Core.Bool.{Bool, true, false, not, ◌&&◌, ◌||◌, or-false}
use mathlib.Core.Path.{◌≡◌, refl, sym, ap, ◌∙◌}
use mathlib.Core.Logic.{◌⊎◌, inl, inr, ⊎_elim}
use mathlib.Core.List.{List}
use lib.Dec.{T, T_not, not_T, leb, ltb}
use Rattle.rules.specs.States.{state_at, is}
use Rattle.rules.specs.Table.{plan_count, parent, entry, retry_aborted}
use Rattle.rules.specs.Words.{word, holds}
use Rattle.rules.specs.Step.{move_by, move, root_orders, too_many_lost, children_complete, move_of, step_by}
use Rattle.rules.specs.HandedIn.{suits}
use Rattle.rules.specs.declared.Orders.{Orders}
use Rattle.rules.specs.declared.PlanEntry.{PlanEntry}
use Rattle.rules.specs.declared.Condition.TheVariants.{Suspend, Reactivate, Abort, Complete}
use Rattle.rules.specs.declared.PlanState.{PlanState}
use Rattle.rules.specs.declared.PlanState.TheVariants.{
  Inactive,
  Considered,
  Possible,
  Ready,
  Activated,
  Suspended,
  Completed,
  Aborted,
  Rejected,
}
use Rattle.rules.proofs.Tree.{Tree}
use Rattle.demands.specs.MovesLeft.{moves_left, stuck_within, stuck}
use Rattle.demands.proofs.Numbers.{last_or}
use Rattle.demands.proofs.Tests.{left, right, in_left, in_right, either, decide, cond_by, ◌⇒◌, given, given₂, arrow}
use Rattle.demands.proofs.States.{is_it, every, of_every}
use Rattle.demands.proofs.Children.{sub_plan}
use Rattle.demands.proofs.Moves.{bools, of_bools, every_orders, every_move, of_every_move, move_moved}
use Rattle.demands.proofs.Step.{told, move_under, state_step, next_root, next_child}
use Rattle.demands.proofs.Orders.{retries_again}
use Rattle.demands.proofs.PassedStates.{Valid}

-- from state x to y, stuck or not before and after: the moves left fall, or the state stays and they do not rise
abbrev pub falls : Bool → PlanState → Bool → PlanState → Bool
falls before x after y =
    ltb (moves_left after y) (moves_left before x) || is x y && leb (moves_left after y) (moves_left before x)

-- A move from `old` to `new` under a parent that goes from q to `now`: it falls if the parent's does. `a` and `b` say that the parent is
-- stuck before and after, `shut` that the plan's reactivate does not hold. What is asked: only a Suspended parent is stuck; a plan is
-- suspended of its own only where it is shut, and reactivated only where it is not
abbrev falls_under : PlanState → PlanState → PlanState → PlanState → Bool → Bool → Bool → Bool
falls_under q now old new a b shut =
    (a ⇒ is Suspended q) ⇒ (b ⇒ is Suspended now) ⇒ falls a q b now
    ⇒ (is Activated old && is Suspended new ⇒ is Suspended now || shut)
    ⇒ (is Suspended old && is Activated new ⇒ not shut)
    ⇒ falls (is Suspended old && (shut || a)) old (is Suspended new && (shut || b)) new

-- nobody retries, and the old states suit each other
abbrev falls_always : PlanState → Orders → PlanState → PlanState → Bool
falls_always now o old new =
    not o.retries
    ⇒ every (λ q. suits q old ⇒ bools (λ a. bools (λ b. bools (λ shut. falls_under q now old new a b shut))))

falls_always_lem : T (every_move falls_always)
unfolding every_move every_orders bools
falls_always_lem = tt

-- Why a plan is suspended or reactivated.
module _ (o : Orders) (e : PlanEntry) (x : ℕ) (lost may_complete : Bool) where
  abbrev goes : PlanState → PlanState → PlanState
  goes now old = move now o e x lost may_complete old

  suspended_by : (now : PlanState) → T (is Suspended (goes now Activated) ⇒ is Suspended now || holds Suspend e x)
  unfolding move_by
  suspended_by Inactive = tt
  suspended_by Considered = tt
  suspended_by Possible = tt
  suspended_by Ready = tt
  suspended_by Activated =
      let P : PlanState → Type 0 = (λ y. T (is Suspended y ⇒ holds Suspend e x)) in
      cond_by P (holds Abort e x || lost) (λ h. tt)
      (λ h. cond_by P (holds Suspend e x) (λ k. k) (λ k. cond_by P (holds Complete e x && may_complete) (λ m. tt) (λ m. tt)))
  suspended_by Suspended = in_right (not (is Suspended (goes Suspended Activated))) true tt
  suspended_by Completed = tt
  suspended_by Aborted = tt
  suspended_by Rejected = tt

  reactivated_by : (now : PlanState) → T (is Activated (goes now Suspended) ⇒ holds Reactivate e x)
  unfolding move_by
  reactivated_by Inactive = tt
  reactivated_by Considered = tt
  reactivated_by Possible = tt
  reactivated_by Ready = tt
  reactivated_by Activated =
      let P : PlanState → Type 0 = (λ y. T (is Activated y ⇒ holds Reactivate e x)) in
      cond_by P (holds Abort e x || lost) (λ h. tt) (λ h. cond_by P (holds Reactivate e x) (λ k. k) (λ k. tt))
  reactivated_by Suspended =
      cond_by (λ y. T (is Activated y ⇒ holds Reactivate e x)) (holds Abort e x || lost) (λ h. tt) (λ h. tt)
  reactivated_by Completed = tt
  reactivated_by Aborted = tt
  reactivated_by Rejected = tt

  module _ (never : T (holds Suspend e x) → T (holds Reactivate e x) → ⊥) where
    abbrev shut : Bool
    shut = not (holds Reactivate e x)

    shut_where_suspended : T (holds Suspend e x) → T shut
    shut_where_suspended s = ⊎_elim (λ r. absurd (never s r)) (λ n. n) (decide (holds Reactivate e x))

    suspends_shut : (now old : PlanState) → T (is Activated old && is Suspended (goes now old)) → T (is Suspended now || shut)
    suspends_shut now old h =
        let was = is_it Activated old (left (is Activated old) _ h) in
        ⊎_elim (in_left (is Suspended now) shut) (λ s. in_right (is Suspended now) shut (shut_where_suspended s))
        (either (is Suspended now) (holds Suspend e x)
        (given (is Suspended (goes now Activated)) (is Suspended now || holds Suspend e x) (suspended_by now)
        (rw was at (right (is Activated old) (is Suspended (goes now old)) h))))

    reactivates_open : (now old : PlanState) → T (is Suspended old && is Activated (goes now old)) → T (not shut)
    reactivates_open now old h =
        let was = is_it Suspended old (left (is Suspended old) _ h) in
        let holding =
        given (is Activated (goes now Suspended)) (holds Reactivate e x) (reactivated_by now)
        (rw was at (right (is Suspended old) (is Activated (goes now old)) h)) in
        not_T shut (λ n. T_not (holds Reactivate e x) n holding)

    move_falls :
        (q now old : PlanState) (a b : Bool) → T (not o.retries) → T (suits q old) → (T a → T (is Suspended q))
        → (T b → T (is Suspended now)) → T (falls a q b now)
        → T (falls (is Suspended old && (shut || a)) old (is Suspended (goes now old) && (shut || b)) (goes now old))
    move_falls q now old a b once fits at_q at_now fell =
        let new = goes now old in
        let moved = (move_moved o e x lost may_complete now old).goes_there in
        let f : PlanState → Bool → Bool → Bool → Bool = (λ r. falls_under r now old new) in
        let g : PlanState → Bool = (λ r. suits r old ⇒ bools (λ a. bools (λ b. bools (f r a b)))) in
        let h₁ = given (not o.retries) (every g) (of_every_move falls_always falls_always_lem now o old new moved) once in
        let h₂ = given (suits q old) (bools (λ a. bools (λ b. bools (f q a b)))) (of_every g h₁ q) fits in
        let h₃ = of_bools (λ b. bools (f q a b)) (of_bools (λ a. bools (λ b. bools (f q a b))) h₂ a) b in
        given (is Suspended old && is Activated new ⇒ not shut) _
        (given (is Activated old && is Suspended new ⇒ is Suspended now || shut) _
        (given (falls a q b now) _
        (given₂ (a ⇒ is Suspended q) (b ⇒ is Suspended now) _ (of_bools (f q a b) h₃ shut)
        (arrow a (is Suspended q) at_q) (arrow b (is Suspended now) at_now))
        fell)
        (arrow (is Activated old && is Suspended new) (is Suspended now || shut) (suspends_shut now old)))
        (arrow (is Suspended old && is Activated new) (not shut) (reactivates_open now old))

-- Whether a plan is stuck, by its parent.
abbrev shut_at : List ℕ → List ℕ → ℕ → Bool
shut_at t w p = not (holds Reactivate (entry t p) (word w p))

module _ (t w : List ℕ) (tree : Tree t) (st : ℕ → PlanState) where
  enough :
      (j k p : ℕ) → p < j → p < k → p < plan_count t → stuck_within t w st j p ≡ stuck_within t w st k p
  unfolding stuck_within
  enough zero k p lj lk l = absurd (omega arith)
  enough (suc j) zero p lj lk l = absurd (omega arith)
  enough (suc j) (suc k) zero lj lk l = refl
  enough (suc j) (suc k) (suc i) lj lk l =
      let down = tree.down (suc i) (omega arith) l in
      ap (λ (b : Bool). is Suspended (st (suc i)) && (shut_at t w (suc i) || b))
      (enough j k (parent t (suc i)) (omega arith) (omega arith) (omega arith))

  pub stuck_root : stuck t w st 0 ≡ (is Suspended (st 0) && (shut_at t w 0 || false))
  unfolding stuck_within
  stuck_root = ap (λ (b : Bool). is Suspended (st 0) && b) (sym (or-false (shut_at t w 0)))

  pub stuck_child : (k : ℕ) → suc k < plan_count t
      → stuck t w st (suc k) ≡ (is Suspended (st (suc k)) && (shut_at t w (suc k) || stuck t w st (parent t (suc k))))
  unfolding stuck_within
  stuck_child k l =
      let down = tree.down (suc k) (omega arith) l in
      ap (λ (b : Bool). is Suspended (st (suc k)) && (shut_at t w (suc k) || b))
      (enough (suc k) (suc (parent t (suc k))) (parent t (suc k)) (omega arith) (omega arith) (omega arith))

  pub stuck_suspended : (p : ℕ) → T (stuck t w st p) → T (is Suspended (st p))
  unfolding stuck_within
  stuck_suspended zero h = left (is Suspended (st 0)) _ h
  stuck_suspended (suc k) h = left (is Suspended (st (suc k))) _ h

-- One step, by a rule and a choice, from states that pass.
module _
    (rule : ℕ) (t s w : List ℕ) (choice : ℕ → ℕ) (tree : Tree t) (v : Valid t (state_at s))
    (once : (p : ℕ) → p < plan_count t → T (not (retry_aborted (entry t p))))
    (never : (p : ℕ) → p < plan_count t → T (holds Suspend (entry t p) (word w p)) → T (holds Reactivate (entry t p) (word w p)) → ⊥) where
  abbrev stepped : List ℕ
  stepped = step_by rule t s w choice

  abbrev fell : ℕ → Type 0
  fell p = T (falls (stuck t w (state_at s) p) (state_at s p) (stuck t w (state_at stepped) p) (state_at stepped p))

  -- under a parent, or what stands for the root's, that goes from q to now
  falls_by :
      (q now : PlanState) (a b : Bool) (o : Orders) (p : ℕ) → p < plan_count t
      → state_at stepped p ≡ move_of rule t s w choice now o p → T (not o.retries) → T (suits q (state_at s p)) → (T a → T (is Suspended q))
      → (T b → T (is Suspended now)) → T (falls a q b now)
      → stuck t w (state_at s) p ≡ (is Suspended (state_at s p) && (shut_at t w p || a))
      → stuck t w (state_at stepped) p ≡ (is Suspended (state_at stepped p) && (shut_at t w p || b))
      → fell p
  falls_by q now a b o p l e no_retry fits at_q at_now above before after =
      rw (before, after, e)
      (move_falls o (entry t p) (word w p) (too_many_lost t s rule p) (children_complete t s p) (never p l) q now (state_at s p) a b no_retry
      fits at_q at_now above)

  root_fell : 0 < plan_count t → fell 0
  root_fell l =
      falls_by Activated Activated false false root_orders 0 l (state_step rule t s w choice 0 l ∙ next_root rule t s w choice) tt tt
      (λ h. absurd h) (λ h. absurd h) tt (stuck_root t w tree (state_at s)) (stuck_root t w tree (state_at stepped))

  child_fell : (k : ℕ) → suc k < plan_count t → fell (parent t (suc k)) → fell (suc k)
  child_fell k l above =
      let p : ℕ = suc k in
      let q : ℕ = parent t p in
      let c = sub_plan t k l in
      let lower : q < plan_count t = omega (arith, tree.down p (omega arith) l) in
      let now = state_at stepped q in
      let orders : Orders = told t s w choice now q p in
      falls_by (state_at s q) now (stuck t w (state_at s) q) (stuck t w (state_at stepped) q) orders p l
      (state_step rule t s w choice p l
      ∙ next_child rule t s w choice tree q p c
      ∙ ap (λ (x : PlanState). move_under rule t s w choice x q p) (sym (state_step rule t s w choice q lower)))
      (not_T orders.retries (λ r. T_not (retry_aborted (entry t q)) (once q lower) (retries_again t s w choice now q p r)))
      (v.each q p c) (stuck_suspended t w tree (state_at s) q) (stuck_suspended t w tree (state_at stepped) q) above
      (stuck_child t w tree (state_at s) k l) (stuck_child t w tree (state_at stepped) k l)

  -- parents first
  fell_below : (j : ℕ) → j ≤ plan_count t → (p : ℕ) → p < j → fell p
  fell_below zero h p l = absurd (omega arith)
  fell_below (suc j) h p l = go (fell_below j (omega arith)) (last_or p j l) p refl
    where
      go : ((r : ℕ) → r < j → fell r) → (p ≡ j) ⊎ (p < j) → (r : ℕ) → r ≡ p → fell r
      go ih (inr y) r e = rw e (ih p y)
      go ih (inl y) zero e = root_fell (omega arith)
      go ih (inl y) (suc k) e =
          child_fell k (omega arith) (ih (parent t (suc k)) (omega (arith, tree.down (suc k) (omega arith) (omega arith))))

  pub all_fell : (p : ℕ) → p < plan_count t → fell p
  all_fell = fell_below (plan_count t) (omega arith)
