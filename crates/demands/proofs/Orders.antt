-- Laws of orders: to whom each body gives which, and when a choice makes no difference. Assumes nothing.
use Prim.Native.Nat.{ℕ}
use mathlib.Core.Bool.{Bool, true, false, cond, not, ◌&&◌}
use mathlib.Core.Path.{◌≡◌, refl}
use mathlib.Core.List.{List}
use lib.Dec.{T, T_not, eqb, eqb→eq}
use Rattle.rules.specs.States.{state_at, is}
use Rattle.rules.specs.Table.{entry, body_of, of_two, retry_aborted}
use Rattle.rules.specs.Words.{word}
use Rattle.rules.specs.Step.{
  move_by,
  move,
  orders_of,
  none,
  first_not_done,
  gate_open,
  may_activate,
  too_many_lost,
  children_complete,
  due,
  orders,
  move_of,
}
use Rattle.rules.specs.declared.Body.{Body}
use Rattle.rules.specs.declared.Body.TheVariants.{
  Leaf,
  Sequential,
  Parallel,
  AnyOrder,
  Unordered,
  OnAbort,
  OnSuspend,
  OnAbortOrSuspend,
  IfThenElse,
}
use Rattle.rules.specs.declared.PlanEntry.{PlanEntry}
use Rattle.rules.specs.declared.Orders.{Orders}
use Rattle.rules.specs.declared.PlanState.{PlanState}
use Rattle.rules.specs.declared.PlanState.TheVariants.{
  Inactive,
  Considered,
  Possible,
  Ready,
  Activated,
  Suspended,
  Completed,
  Aborted,
  Rejected,
}
use Rattle.rules.proofs.Bodies.{of_two_lem}
use Rattle.demands.proofs.Tests.{left, right, is_true, cond_by}
use Rattle.demands.proofs.States.{is_it}
use Rattle.demands.proofs.Step.{told, move_under}

-- A plan q, whose new state is `now`, and its child p.
module _ (t s w : List ℕ) (choice : ℕ → ℕ) (now : PlanState) (q p : ℕ) where
  abbrev given : Orders
  given = told t s w choice now q p

  abbrev asked : Orders
  asked = orders t s (word w q) choice q p

  -- by the body
  abbrev by_body : Body → Orders
  by_body body =
      orders_of body (retry_aborted (entry t q)) (eqb p (first_not_done t s q)) (gate_open t s q) (may_activate t s q && eqb p (choice q))
      (due t s (word w q) q p)

  -- an order that is given is given by an Activated plan, and is one of its body's
  if_given :
      (order : Orders → Bool) → T (not (order none)) → T (order given)
      → T (is Activated now) × T (order asked)
  if_given order h =
      let was : Bool = is Activated (state_at s q) in
      cond_by (λ o. T (order o) → T (is Activated now) × T (order asked)) (was && is Activated now)
      (λ b k. (right was (is Activated now) b, k)) (λ b k. absurd (T_not (order none) h k))

  pub activates_while : T given.activates → T (is Activated now)
  activates_while h = (if_given (λ o. o.activates) tt h).0

  pub activates_chosen : body_of (entry t q) ≡ AnyOrder → T given.activates → T (may_activate t s q) × (p ≡ choice q)
  unfolding orders
  activates_chosen b h =
      let k : T (may_activate t s q && eqb p (choice q)) = rw b at (if_given (λ o. o.activates) tt h).1 in
      (left (may_activate t s q) (eqb p (choice q)) k, eqb→eq p (choice q) (right (may_activate t s q) (eqb p (choice q)) k))

  pub considers_next : body_of (entry t q) ≡ Sequential → T given.considers → p ≡ first_not_done t s q
  unfolding orders
  considers_next b h = eqb→eq p (first_not_done t s q) (rw b at (if_given (λ o. o.considers) tt h).1)

  pub retries_again : T given.retries → T (retry_aborted (entry t q))
  unfolding orders
  retries_again h = go (body_of (entry t q)) (if_given (λ o. o.retries) tt h).1
    where
      again : Bool
      again = retry_aborted (entry t q)

      go : (body : Body) → T (by_body body).retries → T again
      go Leaf k = absurd k
      go Sequential k = left again (eqb p (first_not_done t s q)) k
      go Parallel k = k
      go AnyOrder k = k
      go Unordered k = k
      go OnAbort k = absurd k
      go OnSuspend k = absurd k
      go OnAbortOrSuspend k = absurd k
      go IfThenElse k = absurd k

  -- a body of two considers the child that is due, and retries none
  pub considers_due : T (of_two (body_of (entry t q))) → T given.considers → T (due t s (word w q) q p)
  unfolding orders
  considers_due two h =
      of_two_lem (λ body. T (by_body body).considers → T (due t s (word w q) q p)) (λ k. k) (λ k. k) (λ k. k) (λ k. k)
      (body_of (entry t q)) two (if_given (λ o. o.considers) tt h).1

  pub retries_none : T (of_two (body_of (entry t q))) → T given.retries → ⊥
  unfolding orders
  retries_none two h =
      of_two_lem (λ body. T (by_body body).retries → ⊥) (λ k. k) (λ k. k) (λ k. k) (λ k. k) (body_of (entry t q)) two
      (if_given (λ o. o.retries) tt h).1

-- what any-order would activate counts only for a Ready child of an any-order plan
chosen_counts :
    (parent : PlanState) (e : PlanEntry) (x : ℕ) (lost may_complete : Bool) (body : Body) (again is_next gate is_due b c : Bool)
    (old : PlanState) → (body ≡ AnyOrder → old ≡ Ready → b ≡ c)
    → move parent (orders_of body again is_next gate b is_due) e x lost may_complete old
    ≡ move parent (orders_of body again is_next gate c is_due) e x lost may_complete old
unfolding move_by
chosen_counts parent e x l m Leaf again n g d b c old h = refl
chosen_counts parent e x l m Sequential again n g d b c old h = refl
chosen_counts parent e x l m Parallel again n g d b c old h = refl
chosen_counts parent e x l m Unordered again n g d b c old h = refl
chosen_counts parent e x l m OnAbort again n g d b c old h = refl
chosen_counts parent e x l m OnSuspend again n g d b c old h = refl
chosen_counts parent e x l m OnAbortOrSuspend again n g d b c old h = refl
chosen_counts parent e x l m IfThenElse again n g d b c old h = refl
chosen_counts parent e x l m AnyOrder again n g d b c Inactive h = refl
chosen_counts parent e x l m AnyOrder again n g d b c Considered h = refl
chosen_counts parent e x l m AnyOrder again n g d b c Possible h = refl
chosen_counts parent e x l m AnyOrder again n g d b c Ready h = rw (h refl refl)
chosen_counts parent e x l m AnyOrder again n g d b c Activated h = refl
chosen_counts parent e x l m AnyOrder again n g d b c Suspended h = refl
chosen_counts parent e x l m AnyOrder again n g d b c Completed h = refl
chosen_counts parent e x l m AnyOrder again n g d b c Aborted h = refl
chosen_counts parent e x l m AnyOrder again n g d b c Rejected h = refl

-- and under an any-order plan that stays Activated a Ready child is then Activated exactly where it is the one
ready_shows :
    (e : PlanEntry) (x : ℕ) (lost may_complete again is_next gate is_due b : Bool)
    → is Activated (move Activated (orders_of AnyOrder again is_next gate b is_due) e x lost may_complete Ready) ≡ b
unfolding move_by
ready_shows e x lost may_complete again is_next gate is_due true = refl
ready_shows e x lost may_complete again is_next gate is_due false = refl

-- Where a plan may choose, and what it then shows of a Ready child.
pub record Chooses (t s : List ℕ) (now : PlanState) (q : ℕ) : Type 0 where
  pub body : body_of (entry t q) ≡ AnyOrder
  pub stays : T (is Activated (state_at s q) && is Activated now)
  pub free : T (may_activate t s q)

module _ (rule : ℕ) (t s w : List ℕ) (now : PlanState) (q p : ℕ) where
  pub same_move :
      (choice other : ℕ → ℕ) → (Chooses t s now q → state_at s p ≡ Ready → eqb p (choice q) ≡ eqb p (other q))
      → move_under rule t s w choice now q p ≡ move_under rule t s w other now q p
  unfolding orders
  same_move choice other h = go (is Activated (state_at s q) && is Activated now) refl
    where
      go :
          (b : Bool) → (is Activated (state_at s q) && is Activated now) ≡ b
          → move_of rule t s w choice now (cond b (orders t s (word w q) choice q p) none) p
          ≡ move_of rule t s w other now (cond b (orders t s (word w q) other q p) none) p
      go true e =
          chosen_counts now (entry t p) (word w p) (too_many_lost t s rule p) (children_complete t s p) (body_of (entry t q))
          (retry_aborted (entry t q)) (eqb p (first_not_done t s q)) (gate_open t s q) (due t s (word w q) q p)
          (may_activate t s q && eqb p (choice q)) (may_activate t s q && eqb p (other q)) (state_at s p) chooses
        where
          chooses :
              body_of (entry t q) ≡ AnyOrder → state_at s p ≡ Ready
              → (may_activate t s q && eqb p (choice q)) ≡ (may_activate t s q && eqb p (other q))
          chooses b r = if_free (may_activate t s q) (λ f. h (record { body = b; stays = rw e tt; free = f }) r)
            where
              if_free :
                  (free : Bool) → (T free → eqb p (choice q) ≡ eqb p (other q))
                  → (free && eqb p (choice q)) ≡ (free && eqb p (other q))
              if_free true k = k tt
              if_free false k = refl
      go false e = refl

  pub shows_chosen :
      (choice : ℕ → ℕ) → Chooses t s now q → state_at s p ≡ Ready
      → is Activated (move_under rule t s w choice now q p) ≡ eqb p (choice q)
  unfolding orders
  shows_chosen choice c r =
      let was = is_it Activated (state_at s q) (left (is Activated (state_at s q)) (is Activated now) c.stays) in
      let still = is_it Activated now (right (is Activated (state_at s q)) (is Activated now) c.stays) in
      rw (still, was, r, c.body, is_true (may_activate t s q) c.free)
      (ready_shows (entry t p) (word w p) (too_many_lost t s rule p) (children_complete t s p) (retry_aborted (entry t q))
      (eqb p (first_not_done t s q)) (gate_open t s q) (due t s (word w q) q p) (eqb p (choice q)))
