-- The cause that is told once a step is done is the one on the line of the list which gave the state; and where no state changed, nobody
-- is told to have moved. Assumes nothing.
use Prim.Native.Nat.{ℕ}
use native.Mathlib.Omega.{arith}
use mathlib.Core.Path.{◌≡◌, refl, sym, ap, ◌∙◌}
use mathlib.Core.Bool.{Bool, true, false, cond, not, ◌&&◌, ◌||◌}
use mathlib.Core.List.{List}
use Rattle.rules.specs.States.{cause_code, state_at, is, in_execution}
use Rattle.rules.specs.Table.{entry}
use Rattle.rules.specs.Words.{word, holds, satisfiable}
use Rattle.rules.specs.Step.{move_by, the_state, the_cause, too_many_lost, children_complete, new_state, new_cause}
use Rattle.rules.specs.declared.Cause.{Cause}
use Rattle.rules.specs.declared.Cause.TheVariants.{Unmoved, Ordered, OwnCondition, ChildrenLost, Forced}
use Rattle.rules.specs.declared.Condition.TheVariants.{Filter, Setup, Suspend, Reactivate, Abort, Complete}
use Rattle.rules.specs.declared.Orders.{Orders}
use Rattle.rules.specs.declared.PlanEntry.{PlanEntry}
use Rattle.rules.specs.declared.PlanState.{PlanState}
use Rattle.rules.specs.declared.PlanState.TheVariants.{
  Inactive,
  Considered,
  Possible,
  Ready,
  Activated,
  Suspended,
  Completed,
  Aborted,
  Rejected,
}
use Rattle.family.specs.OrdersAt.{orders_at}
use Rattle.moves.specs.Parents.{parent_state}
use Rattle.moves.specs.Causes.{cause_of_move, cause_told_by, cause_told}
use Rattle.moves.proofs.Moves.{new_by_lem}

-- what is told of one of two or more states, by the tests that choose among them
by_one : (told : PlanState → Cause) (b : Bool) (x y : PlanState) → told (cond b x y) ≡ cond b (told x) (told y)
by_one told true x y = refl
by_one told false x y = refl

by_two :
    (told : PlanState → Cause) (b c : Bool) (x y z : PlanState) → told (cond b x (cond c y z)) ≡ cond b (told x) (cond c (told y) (told z))
by_two told true c x y z = refl
by_two told false c x y z = by_one told c y z

-- where a plan is Aborted under a parent in execution
own_or_lost : (aborts lost : Bool) (stays : Cause) →
    cond (aborts || lost) (cond (not aborts) ChildrenLost OwnCondition) stays
    ≡ cond (aborts || lost) (cond aborts OwnCondition ChildrenLost) stays
own_or_lost true lost stays = refl
own_or_lost false true stays = refl
own_or_lost false false stays = refl

module _ (o : Orders) (e : PlanEntry) (x : ℕ) (lost may_complete : Bool) where
  abbrev aborts : Bool
  aborts = holds Abort e x

  -- the list, and what is told of the state that it gives
  abbrev Right : PlanState → PlanState → Type 0
  Right parent old =
      cause_told_by parent aborts old (move_by the_state parent o e x lost may_complete old)
      ≡ move_by the_cause parent o e x lost may_complete old

  -- under a parent that has not begun, an ended one, an Activated and a Suspended one
  under_dormant : (old : PlanState) → cond (is old Inactive) Unmoved Forced ≡ cond (is Inactive old) Unmoved Forced
  under_dormant Inactive = refl
  under_dormant Considered = refl
  under_dormant Possible = refl
  under_dormant Ready = refl
  under_dormant Activated = refl
  under_dormant Suspended = refl
  under_dormant Completed = refl
  under_dormant Aborted = refl
  under_dormant Rejected = refl

  under_ended : (old : PlanState) → Right Completed old
  unfolding move_by
  under_ended Inactive = refl
  under_ended Considered = refl
  under_ended Possible = refl
  under_ended Ready = refl
  under_ended Activated = refl
  under_ended Suspended = refl
  under_ended Completed = refl
  under_ended Aborted = refl
  under_ended Rejected = refl

  under_activated : (old : PlanState) → Right Activated old
  unfolding move_by
  under_activated Inactive = by_one (cause_told_by Activated aborts Inactive) o.considers _ _
  under_activated Considered =
      by_two (cause_told_by Activated aborts Considered) (holds Filter e x) (not (satisfiable Filter e x)) _ _ _
  under_activated Possible = by_two (cause_told_by Activated aborts Possible) (holds Setup e x) (not (satisfiable Setup e x)) _ _ _
  under_activated Ready = by_one (cause_told_by Activated aborts Ready) o.activates _ _
  under_activated Activated =
      let told : PlanState → Cause = cause_told_by Activated aborts Activated in
      let complete : Bool = holds Complete e x && may_complete in
      by_one told (aborts || lost) Aborted (cond (holds Suspend e x) Suspended (cond complete Completed Activated))
      ∙ own_or_lost aborts lost _
      ∙ ap (cond (aborts || lost) (cond aborts OwnCondition ChildrenLost)) (by_two told (holds Suspend e x) complete _ _ _)
  under_activated Suspended =
      let told : PlanState → Cause = cause_told_by Activated aborts Suspended in
      by_two told (aborts || lost) (holds Reactivate e x) Aborted _ _ ∙ own_or_lost aborts lost _
  under_activated Completed = refl
  under_activated Aborted = by_one (cause_told_by Activated aborts Aborted) o.retries _ _
  under_activated Rejected = refl

  under_suspended : (old : PlanState) → Right Suspended old
  unfolding move_by
  under_suspended Inactive = by_one (cause_told_by Suspended aborts Inactive) o.considers _ _
  under_suspended Considered =
      by_two (cause_told_by Suspended aborts Considered) (holds Filter e x) (not (satisfiable Filter e x)) _ _ _
  under_suspended Possible = by_two (cause_told_by Suspended aborts Possible) (holds Setup e x) (not (satisfiable Setup e x)) _ _ _
  under_suspended Ready = by_one (cause_told_by Suspended aborts Ready) o.activates _ _
  under_suspended Activated =
      by_one (cause_told_by Suspended aborts Activated) (aborts || lost) Aborted Suspended ∙ own_or_lost aborts lost _
  under_suspended Suspended =
      by_one (cause_told_by Suspended aborts Suspended) (aborts || lost) Aborted Suspended ∙ own_or_lost aborts lost _
  under_suspended Completed = refl
  under_suspended Aborted = by_one (cause_told_by Suspended aborts Aborted) o.retries _ _
  under_suspended Rejected = refl

  line_told : (parent old : PlanState) → Right parent old
  unfolding move_by
  line_told Inactive old = under_dormant old
  line_told Considered old = under_dormant old
  line_told Possible old = under_dormant old
  line_told Ready old = under_dormant old
  line_told Activated old = under_activated old
  line_told Suspended old = under_suspended old
  line_told Completed old = under_ended old
  line_told Aborted old = under_ended old
  line_told Rejected old = under_ended old

-- of plan p, where its new state is the step's
pub told_of_step :
    (rule : ℕ) (t s w : List ℕ) (choice : ℕ → ℕ) (new : List ℕ) (p : ℕ) → state_at new p ≡ new_state rule t s w choice new p
    → cause_told t s w new p ≡ new_cause rule t s w choice new p
unfolding cause_told
told_of_step rule t s w choice new p is =
    let up : PlanState = parent_state t new p in
    let o : Orders = orders_at t s w choice up p in
    ap (cause_told_by up (holds Abort (entry t p) (word w p)) (state_at s p)) (is ∙ new_by_lem t s w choice the_state rule new p)
    ∙ line_told o (entry t p) (word w p) (too_many_lost t s rule p) (children_complete t s p) up (state_at s p)
    ∙ sym (new_by_lem t s w choice the_cause rule new p)

-- from what the code has in hand: of a plan that stays, and of one that moved
module _
    (t s w new : List ℕ) (p : ℕ) (was state : PlanState) (old_is : was ≡ state_at s p) (new_is : state ≡ state_at new p)
    (b : Bool) (test : b ≡ is was state) where
  pub told_stays : b ≡ true → Unmoved ≡ cause_told t s w new p
  unfolding cause_told
  told_stays h = rw (← old_is, ← new_is, ← test, h) refl

  pub told_moves :
      b ≡ false → (up : PlanState) (aborts : Bool) (cause : Cause) → up ≡ parent_state t new p → aborts ≡ holds Abort (entry t p) (word w p)
      → cause ≡ cause_of_move up aborts was state → cause ≡ cause_told t s w new p
  unfolding cause_told
  told_moves h up aborts cause e f g = g ∙ rw (← old_is, ← new_is, ← test, h, e, f) refl

-- of a plan whose state is as it was, and of no other, it is told that it is unmoved
itself : (state : PlanState) (cause : Cause) → cond (is state state) Unmoved cause ≡ Unmoved
itself Inactive cause = refl
itself Considered cause = refl
itself Possible cause = refl
itself Ready cause = refl
itself Activated cause = refl
itself Suspended cause = refl
itself Completed cause = refl
itself Aborted cause = refl
itself Rejected cause = refl

told_moved :
    (stays forced ordered lost : Bool)
    → cause_code (cond stays Unmoved (cond forced Forced (cond ordered Ordered (cond lost ChildrenLost OwnCondition)))) ≡ 0
    → stays ≡ true
told_moved true forced ordered lost h = refl
told_moved false true ordered lost h = absurd (omega arith)
told_moved false false true lost h = absurd (omega arith)
told_moved false false false true h = absurd (omega arith)
told_moved false false false false h = absurd (omega arith)

module _ (t s w new : List ℕ) (p : ℕ) where
  pub told_unmoved : state_at new p ≡ state_at s p → cause_told t s w new p ≡ Unmoved
  unfolding cause_told
  told_unmoved e = rw e (itself (state_at s p) _)

  pub unmoved_stays : cause_code (cause_told t s w new p) ≡ 0 → is (state_at s p) (state_at new p) ≡ true
  unfolding cause_told
  unmoved_stays e =
      let up : PlanState = parent_state t new p in
      let was : PlanState = state_at s p in
      let state : PlanState = state_at new p in
      told_moved (is was state) (not (in_execution up) || is Suspended up && is Suspended state) (is Considered state || is Ready was)
      (is Aborted state && not (holds Abort (entry t p) (word w p))) e
