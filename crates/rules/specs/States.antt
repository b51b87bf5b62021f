-- Document 01, 'States': the nine states, their codes and the three groups; and of document 02 (ix) the codes of the causes. Assumes
-- nothing.
-- `code` is the one place of the definitions with the states' numbers; `u8::from` of a state holds it to the constants of the source.
use Rattle.std.specs.Prelude.{ℕ, Bool, false, ◌||◌, List, [], ◌∷◌, get_or, length, eqb, ltb}
use Rattle.rules.specs.Bytes.{byte_at}
use Rattle.rules.specs.declared.Cause.{Cause}
use Rattle.rules.specs.declared.Cause.TheVariants.{Unmoved, Ordered, OwnCondition, ChildrenLost, Forced}
use Rattle.rules.specs.declared.PlanState.{PlanState}
use Rattle.rules.specs.declared.PlanState.TheVariants.{
  Inactive,
  Considered,
  Possible,
  Ready,
  Activated,
  Suspended,
  Completed,
  Aborted,
  Rejected,
}

abbrev pub code : PlanState → ℕ
code Inactive = 0
code Considered = 1
code Possible = 2
code Ready = 3
code Activated = 4
code Suspended = 5
code Completed = 6
code Aborted = 7
code Rejected = 8

-- the states in the order of their codes
abbrev pub by_code : List PlanState
by_code = Inactive ∷ Considered ∷ Possible ∷ Ready ∷ Activated ∷ Suspended ∷ Completed ∷ Aborted ∷ Rejected ∷ []

-- a byte is the code of a state: 0 to 8
abbrev pub is_code : ℕ → Bool
is_code b = ltb b (length by_code)

-- the state that a byte stands for; one that is no code counts as Rejected, and is refused before it is read
abbrev pub state_of : ℕ → PlanState
state_of b = get_or by_code b Rejected

-- the state of plan p in a list of states, a byte a plan
unfoldable pub state_at : List ℕ → ℕ → PlanState
state_at s p = state_of (byte_at s p)

-- a state is one of a few, and is the one
abbrev pub one_of : List PlanState → PlanState → Bool
one_of [] state = false
one_of (y ∷ ys) state = eqb (code state) (code y) || one_of ys state

abbrev pub is : PlanState → PlanState → Bool
is y state = one_of (y ∷ []) state

-- the groups
abbrev pub in_selection : PlanState → Bool
in_selection state = one_of (Considered ∷ Possible ∷ Ready ∷ []) state

abbrev pub in_execution : PlanState → Bool
in_execution state = one_of (Activated ∷ Suspended ∷ []) state

abbrev pub ended : PlanState → Bool
ended state = one_of (Completed ∷ Aborted ∷ Rejected ∷ []) state

-- 4, 5, 6 or 7: the plan has been Activated since it was last Inactive or retried
abbrev pub has_run : PlanState → Bool
has_run state = one_of (Activated ∷ Suspended ∷ Completed ∷ Aborted ∷ []) state

-- why a plan moved: unmoved, ordered by the parent, its own condition, children lost, forced by the parent's state
abbrev pub cause_code : Cause → ℕ
cause_code Unmoved = 0
cause_code Ordered = 1
cause_code OwnCondition = 2
cause_code ChildrenLost = 3
cause_code Forced = 4
