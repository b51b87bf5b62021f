-- States that pass check 11 are led by a step, under any picks and under words that pass check 12, to states that pass it. The start,
-- where all plans are Inactive, passes too. Assumes nothing.
use Prim.Native.Nat.{ℕ, ◌≤◌, ◌<◌}
use native.Mathlib.Omega.{arith}
use mathlib.Core.Bool.{Bool, true, false, not, ◌&&◌, ◌||◌}
use mathlib.Core.Path.{◌≡◌, refl, sym, ◌∙◌, ap}
use mathlib.Core.Logic.{◌⊎◌, inl, inr, ⊎_elim}
use mathlib.Core.List.{List}
use lib.ListN.{replicate, length-replicate, get_or-replicate}
use lib.Dec.{T, T_not}
use Rattle.rules.specs.Lists.{some}
use Rattle.rules.specs.Bytes.{byte_at}
use Rattle.rules.specs.States.{code, state_of, state_at, is, in_execution}
use Rattle.rules.specs.Table.{plan_count, entry, body_of, is_body, of_two, retry_aborted, children}
use Rattle.rules.specs.Words.{word, if_satisfiable}
use Rattle.rules.specs.Step.{done, first_not_done, may_activate, chosen, step_by, step_under}
use Rattle.rules.specs.HandedIn.{suits, lets_later}
use Rattle.rules.specs.Answers.{table_check, Done}
use Rattle.rules.specs.Demands.{SubPlan}
use Rattle.rules.specs.declared.Body.{Body}
use Rattle.rules.specs.declared.Body.TheVariants.{
  Leaf,
  Sequential,
  Parallel,
  AnyOrder,
  Unordered,
  OnAbort,
  OnSuspend,
  OnAbortOrSuspend,
  IfThenElse,
}
use Rattle.rules.specs.declared.Orders.{Orders}
use Rattle.rules.specs.declared.PlanState.{PlanState}
use Rattle.rules.specs.declared.PlanState.TheVariants.{Inactive, Considered, Aborted, Rejected}
use Rattle.rules.proofs.Bodies.{body_is}
use Rattle.rules.proofs.Tree.{Passes, passes, Tree, tree}
use Rattle.demands.specs.PassesStates.{PassesStates}
use Rattle.demands.specs.BranchesAgree.{BranchesAgree}
use Rattle.demands.proofs.Tests.{both, left, right, either, decide}
use Rattle.demands.proofs.Lists.{found_some, first_le}
use Rattle.demands.proofs.Children.{child_member, sorted_children, after_parent}
use Rattle.demands.proofs.States.{code_is_code, is_it, pairs}
use Rattle.demands.proofs.Moves.{dormant, Moved, under_dormant, suits_parent, execution, not_considered, was_unbegun, was_kept}
use Rattle.demands.proofs.Step.{told, next, length_step, byte_step, state_step}
use Rattle.demands.proofs.Orders.{
  activates_while,
  activates_chosen,
  considers_next,
  considers_due,
  retries_again,
  retries_none,
}
use Rattle.demands.proofs.PassedStates.{lets, keeps, Valid, passes_valid, valid_passes}
use Rattle.demands.proofs.TwoChildren.{two_children, second_beside, one_branch}
use Rattle.demands.proofs.Went.{child_moved, SomeMove, plan_moved}

-- children of a plan that has not begun, or is Rejected, are Inactive
unbegun_suits : (x y : PlanState) → T (dormant x || is Rejected x) → T (suits x y) → T (is Inactive y)
unbegun_suits x y h k =
    pairs (λ a b. (dormant a || is Rejected a) && suits a b) (λ a b. is Inactive b) tt x y
    (both (dormant x || is Rejected x) (suits x y) h k)

-- a child in execution keeps an any-order plan from activating another
not_free : (t s : List ℕ) (q c : ℕ) → SubPlan t q c → T (in_execution (state_at s c)) → T (may_activate t s q) → ⊥
unfolding may_activate
not_free t s q c d h free =
    let busy : Bool = some (λ k. in_execution (state_at s k)) (children t q) in
    T_not busy (left (not busy) _ free) (found_some (λ k. in_execution (state_at s k)) (child_member t q c d) h)

-- the first child that a sequential plan is not done with is no higher than any other
first_lowest :
    (t s : List ℕ) (q c : ℕ) → SubPlan t q c → T (not (done (retry_aborted (entry t q)) (state_at s c))) → first_not_done t s q ≤ c
unfolding first_not_done
first_lowest t s q c d h =
    first_le (λ k. not (done (retry_aborted (entry t q)) (state_at s k))) c (children t q) (sorted_children t q) (child_member t q c d) h

module _
    (rule : ℕ) (t s w : List ℕ) (choice : ℕ → ℕ) (passed : Passes t) (v : Valid t (state_at s)) (words : BranchesAgree t w) where
  abbrev shape : Tree t
  shape = tree t passed

  abbrev old : ℕ → PlanState
  old p = state_at s p

  abbrev new : ℕ → PlanState
  new p = next rule t s w choice p

  module _ (q p : ℕ) (c : SubPlan t q p) where
    abbrev orders : Orders
    orders = told t s w choice (new q) q p

    moved : Moved (new q) orders (old p) (new p)
    moved = child_moved rule t s w choice shape q p c

    parent_within : q < plan_count t
    parent_within = omega (arith, after_parent t shape q p c, c.within)

    suits_new : T (suits (new q) (new p))
    suits_new =
        suits_parent moved (activates_while t s w choice (new q) q p)
        (λ h. unbegun_suits (old q) (old p) (was_unbegun parent_moved.moved h) (v.each q p c))
      where
        parent_moved : SomeMove rule t s w choice q
        parent_moved = plan_moved rule t s w choice shape q parent_within

    -- in execution: it was so before, or q was free and chose it
    in_execution_lem :
        body_of (entry t q) ≡ AnyOrder → T (in_execution (new p))
        → T (in_execution (old p)) ⊎ (T (may_activate t s q) × (p ≡ choice q))
    in_execution_lem b h = go (execution moved h)
      where
        go : T (in_execution (old p)) ⊎ T orders.activates → T (in_execution (old p)) ⊎ (T (may_activate t s q) × (p ≡ choice q))
        go (inl x) = inl x
        go (inr x) = inr (activates_chosen t s w choice (new q) q p b x)

    -- a retry lets no less than the abort did: a sequential plan that retries keeps an Aborted child's place, a body of two retries none
    retry_lets : T orders.retries → T (lets t q Aborted) → T (lets t q Considered)
    retry_lets r =
        ⊎_elim (λ two. absurd (retries_none t s w choice (new q) q p two r))
        (single (body_of (entry t q)) (retry_aborted (entry t q)) (retries_again t s w choice (new q) q p r))
        (decide (of_two (body_of (entry t q))))
      where
        single :
            (body : Body) (again : Bool) → T again → T (not (of_two body)) → T (lets_later body again Aborted)
            → T (lets_later body again Considered)
        single Leaf again h one k = tt
        single Sequential true h one k = absurd k
        single Sequential false h one k = absurd h
        single Parallel again h one k = tt
        single AnyOrder again h one k = tt
        single Unordered again h one k = tt
        single OnAbort again h one k = absurd one
        single OnSuspend again h one k = absurd one
        single OnAbortOrSuspend again h one k = absurd one
        single IfThenElse again h one k = absurd one

    -- Inactive, and not considered: it stays so
    stays_inactive : old p ≡ Inactive → (T orders.considers → ⊥) → new p ≡ Inactive
    stays_inactive e none = ⊎_elim (is_it Inactive (new p)) (λ x. absurd (none x)) (not_considered moved (rw e tt))

    -- considered: each lower child lets it be other than Inactive
    considers_let : (c : ℕ) → SubPlan t q c → c < p → T orders.considers → T (lets t q (old c))
    considers_let k at_k l h = ⊎_elim of_two_lem (λ one. single (body_of (entry t q)) refl one) (decide (of_two (body_of (entry t q))))
      where
        of_two_lem : T (of_two (body_of (entry t q))) → T (lets t q (old k))
        of_two_lem two =
            second_beside t s (word w q) q k p (two_children t passed q parent_within two) at_k c l two
            (considers_due t s w choice (new q) q p two h)

        next_done : body_of (entry t q) ≡ Sequential → T (done (retry_aborted (entry t q)) (old k))
        next_done b =
            let next = considers_next t s w choice (new q) q p b h in
            ⊎_elim (λ x. x) (λ x. absurd (omega (arith, first_lowest t s q k at_k x))) (decide (done (retry_aborted (entry t q)) (old k)))

        single : (body : Body) → body_of (entry t q) ≡ body → T (not (of_two body)) → T (lets_later body (retry_aborted (entry t q)) (old k))
        single Leaf b one = tt
        single Sequential b one = next_done b
        single Parallel b one = tt
        single AnyOrder b one = tt
        single Unordered b one = tt
        single OnAbort b one = absurd one
        single OnSuspend b one = absurd one
        single OnAbortOrSuspend b one = absurd one
        single IfThenElse b one = absurd one

  one_new :
      (q c d : ℕ) → body_of (entry t q) ≡ AnyOrder → SubPlan t q c → SubPlan t q d
      → T (in_execution (new c)) → T (in_execution (new d)) → c ≡ d
  one_new q c d b at_c at_d x y = go (in_execution_lem q c at_c b x) (in_execution_lem q d at_d b y)
    where
      go :
          T (in_execution (old c)) ⊎ (T (may_activate t s q) × (c ≡ choice q))
          → T (in_execution (old d)) ⊎ (T (may_activate t s q) × (d ≡ choice q)) → c ≡ d
      go (inl h) (inl k) = v.one q c d b at_c at_d h k
      go (inl h) (inr k) = absurd (not_free t s q c at_c h k.0)
      go (inr h) (inl k) = absurd (not_free t s q d at_d k h.0)
      go (inr h) (inr k) = h.1 ∙ sym k.1

  later_new : (q c d : ℕ) → SubPlan t q c → SubPlan t q d → c < d → T (keeps t q (new c)) → new d ≡ Inactive
  later_new q c d at_c at_d l h =
      ⊎_elim (λ x. is_it Inactive (new d) (under_dormant (moved q d at_d) x))
      (λ x. ⊎_elim kept taken (either (keeps t q (old c)) branch x))
      (was_kept (moved q c at_c) (body_of (entry t q)) (retry_aborted (entry t q)) (retry_lets q c at_c) h)
    where
      branch : Bool
      branch = is_body IfThenElse (body_of (entry t q)) && (is Inactive (old c) && (orders q c at_c).considers)

      -- it kept d before
      kept : T (keeps t q (old c)) → new d ≡ Inactive
      kept k =
          stays_inactive q d at_d (v.later q c d at_c at_d l k)
          (λ x. T_not (lets t q (old c)) k (considers_let q d at_d c at_c l x))

      -- if-then-else considers it, and so not d
      taken : T branch → new d ≡ Inactive
      taken k =
          let b = body_is IfThenElse (body_of (entry t q)) (left (is_body IfThenElse (body_of (entry t q))) _ k) in
          let two : T (of_two (body_of (entry t q))) = rw b tt in
          let chosen_one = right (is Inactive (old c)) (orders q c at_c).considers (right (is_body IfThenElse (body_of (entry t q))) _ k) in
          let one =
          one_branch t s (word w q) q c d (two_children t passed q (parent_within q c at_c) two) at_c at_d l b
          (considers_due t s w choice (new q) q c two chosen_one) in
          stays_inactive q d at_d one.0
          (λ x. let both_due = one.1 (considers_due t s w choice (new q) q d two x) in
          T_not (if_satisfiable (word w q)) both_due.1 (words q (parent_within q c at_c) both_due.0))

  next_valid : Valid t new
  next_valid = record { each = suits_new; one = one_new; later = later_new }

-- the states of the plans below n are all that counts
same_valid : (t : List ℕ) → Tree t → (f g : ℕ → PlanState) → ((p : ℕ) → p < plan_count t → g p ≡ f p) → Valid t f → Valid t g
same_valid t tree f g e v =
    record {
      each = λ q c p. rw (e q (omega (arith, after_parent t tree q c p, p.within)), e c p.within) (v.each q c p);
      one =
          λ q c d b p r x y. v.one q c d b p r (rw (e c p.within) at x) (rw (e d r.within) at y);
      later = λ q c d p r l h. rw (e d r.within) (v.later q c d p r l (rw (e c p.within) at h));
    }

pub step_by_passes :
    (rule : ℕ) (t s w : List ℕ) (choice : ℕ → ℕ) → Passes t → PassesStates t s → BranchesAgree t w
    → PassesStates t (step_by rule t s w choice)
step_by_passes rule t s w choice passed p words =
    valid_passes t (step_by rule t s w choice)
    (same_valid t (tree t passed) (next rule t s w choice) _ (state_step rule t s w choice)
    (next_valid rule t s w choice passed (passes_valid t s p) words))
    (length_step rule t s w choice)
    (λ k l. rw (byte_step rule t s w choice k l) (code_is_code (next rule t s w choice k)))

-- plans that have not begun
pub start_passes : (t : List ℕ) → table_check t ≡ Done → PassesStates t (replicate (plan_count t) (code Inactive))
unfolding state_at
start_passes t done =
    valid_passes t start (same_valid t (tree t (passes t done)) (λ p. Inactive) _ (λ p l. ap state_of (at p l)) idle)
    (length-replicate (plan_count t) 0) (λ p l. rw (at p l) tt)
  where
    start : List ℕ
    start = replicate (plan_count t) (code Inactive)

    at : (p : ℕ) → p < plan_count t → byte_at start p ≡ code Inactive
    at p l = get_or-replicate {A = ℕ} (plan_count t) p 0 0 l

    idle : Valid t (λ p. Inactive)
    idle = record { each = λ q c p. tt; one = λ q c d b p r x y. absurd x; later = λ q c d p r l h. refl }

pub step_passes :
    (rule : ℕ) (t s w : List ℕ) (pick : ℕ → ℕ) → table_check t ≡ Done → PassesStates t s → BranchesAgree t w
    → PassesStates t (step_under rule t s w pick)
unfolding step_under
step_passes rule t s w pick done = step_by_passes rule t s w (chosen t s pick) (passes t done)
