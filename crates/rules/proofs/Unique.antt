-- One answer: any two that the contract of a public function permits are equal, function by function. The contract is taken as Rattle
-- reads it: `Post κs a z e`, of the lifetimes, the arguments, the answer and the parameters at exit, arguments and parameters in the
-- order of the declaration. So a contract that loses its line is found here. Assumes nothing.
use mathlib.Core.Path.{◌≡◌, sym, ◌∙◌}
use Rattle.rules.proofs.U8FromPlanState.from.Reads as state_code
use Rattle.rules.proofs.PlanState.from_byte.Reads as from_byte
use Rattle.rules.proofs.PlanStatePartialEq.eq.Reads as same_state
use Rattle.rules.proofs.PlanState.in_selection.Reads as in_selection
use Rattle.rules.proofs.PlanState.in_execution.Reads as in_execution
use Rattle.rules.proofs.PlanState.is_ended.Reads as is_ended
use Rattle.rules.proofs.PlanState.has_run.Reads as has_run
use Rattle.rules.proofs.U8FromCause.from.Reads as cause_code
use Rattle.rules.proofs.BodyPartialEq.eq.Reads as same_body
use Rattle.rules.proofs.Body.is_of_two.Reads as is_of_two
use Rattle.rules.proofs.Condition.bit.Reads as bit
use Rattle.rules.proofs.is_set.Reads as is_set
use Rattle.rules.proofs.PlanEntry.holds.Reads as holds
use Rattle.rules.proofs.PlanEntry.satisfiable.Reads as satisfiable
use Rattle.rules.proofs.PlanEntry.body_kind.Reads as body_kind
use Rattle.rules.proofs.PlanEntry.retries_aborted.Reads as retries_aborted
use Rattle.rules.proofs.PlanEntry.waits_for_optional.Reads as waits_for_optional
use Rattle.rules.proofs.PlanEntry.is_named.Reads as is_named
use Rattle.rules.proofs.PlanEntry.wait_for.Reads as wait_for
use Rattle.rules.proofs.at_least.Reads as at_least
use Rattle.rules.proofs.Joint.join.Reads as join
use Rattle.rules.proofs.Node.asks.Reads as asks
use Rattle.rules.proofs.is_rule.Reads as is_rule
use Rattle.rules.proofs.pick_of.Reads as pick_of

-- two answers that equal one thing are equal
pub one_answer {ℓ} : {A : Type ℓ} {definition r r' : A} → r ≡ definition → r' ≡ definition → r ≡ r'
one_answer e e' = e ∙ sym e'

-- any two permitted answers of a function that is lent nothing to write are equal
pub record OneAnswer {K A Z E : Type 0} (Post : K → A → Z → E → Type 0) : Type 0 where
  pub once : (κs : K) (a : A) (z z' : Z) (e e' : E) → Post κs a z e → Post κs a z' e' → z ≡ z'

-- so they are where the contract equates the answer to a definition
pub by_equation :
    {K A Z E : Type 0} {definition : K → A → Z} → OneAnswer (λ (κs : K) (a : A) (z : Z) (e : E). z ≡ definition κs a)
by_equation = record { once = λ κs a z z' e e' h h'. one_answer h h' }

-- the functions of a plan's state, and that of a cause
pub states_once :
    OneAnswer state_code.Post × OneAnswer from_byte.Post × OneAnswer same_state.Post × OneAnswer in_selection.Post
    × OneAnswer in_execution.Post × OneAnswer is_ended.Post × OneAnswer has_run.Post × OneAnswer cause_code.Post
states_once = (by_equation, by_equation, by_equation, by_equation, by_equation, by_equation, by_equation, by_equation)

-- those of a body, a condition, a bit and an input word
pub bodies_once :
    OneAnswer same_body.Post × OneAnswer is_of_two.Post × OneAnswer bit.Post × OneAnswer is_set.Post
    × OneAnswer pick_of.Post
bodies_once = (
  by_equation,
  by_equation,
  record { once = λ κs a z z' e e' h h'. one_answer h.0 h'.0 },
  by_equation,
  record { once = λ κs a z z' e e' h h'. one_answer h.0 h'.0 },
)

-- those of a plan's entry
pub entries_once :
    OneAnswer holds.Post × OneAnswer satisfiable.Post × OneAnswer body_kind.Post
    × OneAnswer retries_aborted.Post × OneAnswer waits_for_optional.Post × OneAnswer is_named.Post
    × OneAnswer wait_for.Post
entries_once = (by_equation, by_equation, by_equation, by_equation, by_equation, by_equation, by_equation)

-- those of a node of a formula
pub nodes_once : OneAnswer at_least.Post × OneAnswer join.Post × OneAnswer asks.Post
nodes_once = (by_equation, by_equation, by_equation)

-- and that of a rule number
pub rule_once : OneAnswer is_rule.Post
rule_once = by_equation

-- the same of a function that is lent something to write: its answers are one, and so is what it leaves there
abbrev pub OneAnswerLeaving : {K A Z E L : Type 0} → (K → A → Z → E → Type 0) → (E → L) → Type 0
OneAnswerLeaving Post left =
    (κs : _) (a : _) (z z' : _) (e e' : _) → Post κs a z e → Post κs a z' e' → (z ≡ z') × (left e ≡ left e')

-- and of one that is lent two buffers to write
abbrev pub OneAnswerLeavingTwo : {K A Z E L : Type 0} → (K → A → Z → E → Type 0) → (E → L) → (E → L) → Type 0
OneAnswerLeavingTwo Post left told =
    (κs : _) (a : _) (z z' : _) (e e' : _) → Post κs a z e → Post κs a z' e' → (z ≡ z') × (left e ≡ left e') × (told e ≡ told e')
