-- One move: the states that a plan may go to from each. What the theorems use of a move is computed here for all states and
-- orders, from this table alone. Assumes nothing.
use Prim.Native.Nat.{ℕ}
use mathlib.Core.Bool.{Bool, true, false, cond, not, ◌&&◌, ◌||◌}
use mathlib.Core.Logic.{◌⊎◌}
use mathlib.Core.Path.{◌≡◌, refl}
use mathlib.Core.List.{[], ◌∷◌}
use lib.Dec.{T, eqb, eqb_refl}
use Rattle.rules.specs.States.{code, one_of, is, in_selection, in_execution, ended}
use Rattle.rules.specs.Words.{holds, satisfiable}
use Rattle.rules.specs.Table.{is_body}
use Rattle.rules.specs.Step.{move_by, move}
use Rattle.rules.specs.HandedIn.{suits, lets_later}
use Rattle.rules.specs.declared.Body.{Body}
use Rattle.rules.specs.declared.Body.TheVariants.{
  Leaf,
  Sequential,
  Parallel,
  AnyOrder,
  Unordered,
  OnAbort,
  OnSuspend,
  OnAbortOrSuspend,
  IfThenElse,
}
use Rattle.rules.specs.declared.PlanEntry.{PlanEntry}
use Rattle.rules.specs.declared.Orders.{Orders}
use Rattle.rules.specs.declared.Condition.TheVariants.{Filter, Setup, Abort, Suspend, Reactivate, Complete}
use Rattle.rules.specs.declared.PlanState.{PlanState}
use Rattle.rules.specs.declared.PlanState.TheVariants.{
  Inactive,
  Considered,
  Possible,
  Ready,
  Activated,
  Suspended,
  Completed,
  Aborted,
  Rejected,
}
use Rattle.demands.proofs.Tests.{left, right, in_left, either, neither, cond_by, ◌⇒◌, given, given₂, arrow}
use Rattle.demands.proofs.States.{every, of_every}

-- from old to new under a parent in execution; `held` says that the parent is Suspended
abbrev goes_on : Bool → Orders → PlanState → PlanState → Bool
goes_on held o Inactive new = is Inactive new || is Considered new && o.considers
goes_on held o Considered new = one_of (Considered ∷ Possible ∷ Rejected ∷ []) new
goes_on held o Possible new = one_of (Possible ∷ Ready ∷ Rejected ∷ []) new
goes_on held o Ready new = is Ready new || is Activated new && o.activates
goes_on held o Activated new = one_of (Suspended ∷ Completed ∷ Aborted ∷ []) new || is Activated new && not held
goes_on held o Suspended new = one_of (Suspended ∷ Aborted ∷ []) new || is Activated new && not held
goes_on held o Completed new = is Completed new
goes_on held o Aborted new = is Aborted new || is Considered new && o.retries
goes_on held o Rejected new = is Rejected new

-- a plan that has not begun: Inactive or in selection. Under it a child becomes Inactive
abbrev pub dormant : PlanState → Bool
dormant state = is Inactive state || in_selection state

-- under an ended parent
abbrev cut_off : PlanState → PlanState
cut_off old = cond (in_selection old) Rejected (cond (in_execution old) Aborted old)

-- from old to new, by the parent's new state and its orders
abbrev goes : PlanState → Orders → PlanState → PlanState → Bool
goes parent o old new =
    cond (dormant parent) (is Inactive new) (cond (ended parent) (is (cut_off old) new) (goes_on (is Suspended parent) o old new))

itself : (x : PlanState) → T (is x x)
itself x = in_left (eqb (code x) (code x)) false (eqb_refl (code x))

module _ (o : Orders) (e : PlanEntry) (x : ℕ) (lost may_complete : Bool) where
  module _
      (parent : PlanState) (begun : dormant parent ≡ false) (going_on : ended parent ≡ false)
      (either_way : is Activated parent ≡ not (is Suspended parent)) where
    abbrev held : Bool
    held = is Suspended parent

    executing_goes : (old : PlanState) → T (goes parent o old (move parent o e x lost may_complete old))
    unfolding move_by
    executing_goes Inactive =
        rw (begun, going_on) (cond_by (λ y. T (goes_on held o Inactive y)) o.considers (λ h. h) (λ h. tt))
    executing_goes Considered =
        let P : PlanState → Type 0 = (λ y. T (goes_on held o Considered y)) in
        rw (begun, going_on)
        (cond_by P (holds Filter e x) (λ h. tt) (λ h. cond_by P (not (satisfiable Filter e x)) (λ k. tt) (λ k. tt)))
    executing_goes Possible =
        let P : PlanState → Type 0 = (λ y. T (goes_on held o Possible y)) in
        rw (begun, going_on)
        (cond_by P (holds Setup e x) (λ h. tt) (λ h. cond_by P (not (satisfiable Setup e x)) (λ k. tt) (λ k. tt)))
    executing_goes Ready = rw (begun, going_on) (cond_by (λ y. T (goes_on held o Ready y)) o.activates (λ h. h) (λ h. tt))
    executing_goes Activated =
        let P : PlanState → Type 0 = (λ y. T (goes_on held o Activated y)) in
        rw (begun, going_on)
        (cond_by P (holds Abort e x || lost) (λ h. tt)
        (λ h. cond_by P (held || holds Suspend e x) (λ k. tt)
        (λ k. cond_by P (holds Complete e x && may_complete) (λ m. tt) (λ m. neither held (holds Suspend e x) k))))
    executing_goes Suspended =
        let P : PlanState → Type 0 = (λ y. T (goes_on held o Suspended y)) in
        rw (begun, going_on, either_way)
        (cond_by P (holds Abort e x || lost) (λ h. tt)
        (λ h. cond_by P (not held && holds Reactivate e x) (λ k. left (not held) (holds Reactivate e x) k) (λ k. tt)))
    executing_goes Completed = rw (begun, going_on) tt
    executing_goes Aborted = rw (begun, going_on) (cond_by (λ y. T (goes_on held o Aborted y)) o.retries (λ h. h) (λ h. tt))
    executing_goes Rejected = rw (begun, going_on) tt

  move_goes : (parent old : PlanState) → T (goes parent o old (move parent o e x lost may_complete old))
  unfolding move_by
  move_goes Inactive old = tt
  move_goes Considered old = tt
  move_goes Possible old = tt
  move_goes Ready old = tt
  move_goes Activated old = executing_goes Activated refl refl refl old
  move_goes Suspended old = executing_goes Suspended refl refl refl old
  move_goes Completed old = itself (cut_off old)
  move_goes Aborted old = itself (cut_off old)
  move_goes Rejected old = itself (cut_off old)

-- a move goes where the table says
pub record Moved (parent : PlanState) (o : Orders) (old new : PlanState) : Type 0 where
  pub goes_there : T (goes parent o old new)

pub move_moved :
    (o : Orders) (e : PlanEntry) (x : ℕ) (lost may_complete : Bool) (parent old : PlanState)
    → Moved parent o old (move parent o e x lost may_complete old)
move_moved o e x lost may_complete parent old = record { goes_there = move_goes o e x lost may_complete parent old }

-- A test of moves that passes for all states and orders holds of each move.
unfoldable pub bools : (Bool → Bool) → Bool
bools f = f true && f false

pub of_bools : (f : Bool → Bool) → T (bools f) → (b : Bool) → T (f b)
unfolding bools
of_bools f h true = left (f true) (f false) h
of_bools f h false = right (f true) (f false) h

unfoldable pub every_orders : (Orders → Bool) → Bool
unfolding bools
every_orders f = bools (λ c. bools (λ a. bools (λ r. f (record { considers = c; activates = a; retries = r }))))

of_every_orders : (f : Orders → Bool) → T (every_orders f) → (o : Orders) → T (f o)
unfolding every_orders
of_every_orders f h o =
    let g : Bool → Bool → Bool → Bool = (λ c a r. f (record { considers = c; activates = a; retries = r })) in
    let h₁ = of_bools (λ c. bools (λ a. bools (λ r. g c a r))) h o.considers in
    let h₂ = of_bools (λ a. bools (λ r. g o.considers a r)) h₁ o.activates in
    of_bools (g o.considers o.activates) h₂ o.retries

unfoldable pub every_move : (PlanState → Orders → PlanState → PlanState → Bool) → Bool
unfolding every_orders
every_move f = every (λ parent. every_orders (λ o. every (λ old. every (λ new. goes parent o old new ⇒ f parent o old new))))

pub of_every_move :
    (f : PlanState → Orders → PlanState → PlanState → Bool) → T (every_move f)
    → (parent : PlanState) (o : Orders) (old new : PlanState) → T (goes parent o old new) → T (f parent o old new)
unfolding every_move
of_every_move f h parent o old new =
    let g : PlanState → Orders → PlanState → PlanState → Bool = (λ q i x y. goes q i x y ⇒ f q i x y) in
    let h₁ = of_every (λ q. every_orders (λ i. every (λ x. every (λ y. g q i x y)))) h parent in
    let h₂ = of_every_orders (λ i. every (λ x. every (λ y. g parent i x y))) h₁ o in
    let h₃ = of_every (λ x. every (λ y. g parent o x y)) h₂ old in
    given (goes parent o old new) (f parent o old new) (of_every (λ y. g parent o old y) h₃ new)

-- A child in this state keeps the later ones Inactive, or if-then-else considers it now; and a move to a state that keeps them comes from
-- such a one, unless the parent has not begun, where a retry lets no less than the abort did.
abbrev pub kept_or_taken : Body → Bool → Orders → PlanState → Bool
kept_or_taken body again o old = not (lets_later body again old) || is_body IfThenElse body && (is Inactive old && o.considers)

abbrev keeps_on : Body → Bool → PlanState → Orders → PlanState → PlanState → Bool
keeps_on body again parent o old new =
    (o.retries ⇒ lets_later body again Aborted ⇒ lets_later body again Considered) ⇒ not (lets_later body again new)
    ⇒ dormant parent || kept_or_taken body again o old

keeps_on_lem : (body : Body) (again : Bool) → T (every_move (keeps_on body again))
unfolding every_move
keeps_on_lem Leaf again = tt
keeps_on_lem Sequential true = tt
keeps_on_lem Sequential false = tt
keeps_on_lem Parallel again = tt
keeps_on_lem AnyOrder again = tt
keeps_on_lem Unordered again = tt
keeps_on_lem OnAbort again = tt
keeps_on_lem OnSuspend again = tt
keeps_on_lem OnAbortOrSuspend again = tt
keeps_on_lem IfThenElse again = tt

-- What the theorems use of a move.
module _ {parent : PlanState} {o : Orders} {old new : PlanState} (moved : Moved parent o old new) where
  fact : (f : PlanState → Orders → PlanState → PlanState → Bool) → T (every_move f) → T (f parent o old new)
  fact f h = of_every_move f h parent o old new moved.goes_there

  -- a child of a plan that has not begun is Inactive
  pub under_dormant : T (dormant parent) → T (is Inactive new)
  unfolding every_move
  under_dormant = given (dormant parent) (is Inactive new) (fact (λ q i x y. dormant q ⇒ is Inactive y) tt)

  -- a child suits its parent, if only an Activated one activates it and under a Rejected one it was Inactive
  pub suits_parent :
      (T o.activates → T (is Activated parent)) → (T (is Rejected parent) → T (is Inactive old)) → T (suits parent new)
  unfolding every_move
  suits_parent f g =
      given₂ (o.activates ⇒ is Activated parent) (is Rejected parent ⇒ is Inactive old) (suits parent new)
      (fact (λ q i x y. (i.activates ⇒ is Activated q) ⇒ (is Rejected q ⇒ is Inactive x) ⇒ suits q y) tt)
      (arrow o.activates (is Activated parent) f) (arrow (is Rejected parent) (is Inactive old) g)

  -- what is in execution was so, or is activated
  pub execution : T (in_execution new) → T (in_execution old) ⊎ T o.activates
  unfolding every_move
  execution h =
      either (in_execution old) o.activates
      (given (in_execution new) (in_execution old || o.activates)
      (fact (λ q i x y. in_execution y ⇒ in_execution x || i.activates) tt) h)

  -- what is Inactive stays so, or is considered
  pub not_considered : T (is Inactive old) → T (is Inactive new) ⊎ T o.considers
  unfolding every_move
  not_considered h =
      either (is Inactive new) o.considers
      (given (is Inactive old) (is Inactive new || o.considers)
      (fact (λ q i x y. is Inactive x ⇒ is Inactive y || i.considers) tt) h)

  -- what is Rejected was so, or had not begun
  pub was_unbegun : T (is Rejected new) → T (dormant old || is Rejected old)
  unfolding every_move
  was_unbegun =
      given (is Rejected new) (dormant old || is Rejected old)
      (fact (λ q i x y. is Rejected y ⇒ dormant x || is Rejected x) tt)

  -- a plan that had begun begins anew only by a retry, or under a parent that has not begun
  pub begins_anew : T (not (dormant old)) → T (dormant new) → T (dormant parent) ⊎ T (is Aborted old && is Considered new)
  unfolding every_move
  begins_anew h k =
      either (dormant parent) (is Aborted old && is Considered new)
      (given₂ (not (dormant old)) (dormant new) (dormant parent || is Aborted old && is Considered new)
      (fact (λ q i x y. not (dormant x) ⇒ dormant y ⇒ dormant q || is Aborted x && is Considered y) tt) h k)

  -- an ended plan that does not begin anew keeps its ending
  pub keeps_ending : T (ended old) → T (not (dormant new)) → T (is old new)
  unfolding every_move
  keeps_ending =
      given₂ (ended old) (not (dormant new)) (is old new) (fact (λ q i x y. ended x ⇒ not (dormant y) ⇒ is x y) tt)

  -- what keeps the later children Inactive did so before, or is considered by if-then-else; unless the parent has not begun itself
  pub was_kept :
      (body : Body) (again : Bool) → (T o.retries → T (lets_later body again Aborted) → T (lets_later body again Considered))
      → T (not (lets_later body again new)) → T (dormant parent) ⊎ T (kept_or_taken body again o old)
  was_kept body again f h =
      either (dormant parent) (kept_or_taken body again o old)
      (given₂ (o.retries ⇒ lets_later body again Aborted ⇒ lets_later body again Considered) (not (lets_later body again new))
      (dormant parent || kept_or_taken body again o old) (fact (keeps_on body again) (keeps_on_lem body again))
      (arrow o.retries (lets_later body again Aborted ⇒ lets_later body again Considered)
      (λ r. arrow (lets_later body again Aborted) (lets_later body again Considered) (f r))) h)
