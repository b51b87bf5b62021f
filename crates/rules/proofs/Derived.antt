-- What the derived `==` of a state and of a body says, in the definitions' words. Assumes nothing.
use Prim.Native.Nat.{ℕ}
use mathlib.Core.Path.{◌≡◌, refl, sym, ap₂, ◌∙◌}
use mathlib.Core.Bool.{or-false}
use denote.Enum.Declared.{tag_of}
use denote.Enum.Bare.{sameb}
use lib.Dec.{eqb}
use Rattle.rules.specs.States.{code, is}
use Rattle.rules.specs.Table.{body_number, is_body}
use Rattle.rules.specs.contracts.Body as declared_body
use Rattle.rules.specs.contracts.PlanState as declared_state
use Rattle.rules.specs.declared.Body.{Body}
use Rattle.rules.specs.declared.Body.TheVariants.{
  Leaf,
  Sequential,
  Parallel,
  AnyOrder,
  Unordered,
  OnAbort,
  OnSuspend,
  OnAbortOrSuspend,
  IfThenElse,
}
use Rattle.rules.specs.declared.PlanState.{PlanState}
use Rattle.rules.specs.declared.PlanState.TheVariants.{
  Inactive,
  Considered,
  Possible,
  Ready,
  Activated,
  Suspended,
  Completed,
  Aborted,
  Rejected,
}

state_tag : (x : PlanState) → tag_of declared_state.the_type x ≡ code x
state_tag Inactive = refl
state_tag Considered = refl
state_tag Possible = refl
state_tag Ready = refl
state_tag Activated = refl
state_tag Suspended = refl
state_tag Completed = refl
state_tag Aborted = refl
state_tag Rejected = refl

body_tag : (x : Body) → tag_of declared_body.the_type x ≡ body_number x
body_tag Leaf = refl
body_tag Sequential = refl
body_tag Parallel = refl
body_tag AnyOrder = refl
body_tag Unordered = refl
body_tag OnAbort = refl
body_tag OnSuspend = refl
body_tag OnAbortOrSuspend = refl
body_tag IfThenElse = refl

pub same_state : (x y : PlanState) → sameb declared_state.the_type x y ≡ is y x
same_state x y = ap₂ (λ (a b : ℕ). eqb a b) (state_tag x) (state_tag y) ∙ sym (or-false (eqb (code x) (code y)))

pub same_body : (x y : Body) → sameb declared_body.the_type x y ≡ is_body y x
same_body x y = ap₂ (λ (a b : ℕ). eqb a b) (body_tag x) (body_tag y)
