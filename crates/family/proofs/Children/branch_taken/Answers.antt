-- `branch_taken` meets its contract: both children's bits in the word of the Inactive ones, and the plan's own word. Assumes nothing.
use Rattle.std.proofs.Common.{◌≡◌, ap, ap₂, ◌∙◌, Bool, not, ◌&&◌, List, ℕ, ◌+◌, ◌*◌, get_or, eqb}
use Rattle.rules.specs.States.{code, is}
use Rattle.rules.specs.Step.{state_of_first, state_of_second}
use Rattle.rules.specs.declared.PlanState.TheVariants.{Inactive}
use Rattle.family.specs.ChildWords.{HasTwo, ChildWords}
use Rattle.family.proofs.ChildWords.{in_one, of_two_lem}
use Rattle.family.proofs.TwoChildren.{both_pass}
use Rattle.family.proofs.Children.branch_taken.Goals as goal

-- where the word of the Inactive children is known
both_idle :
    {sets : List ℕ} {q w : ℕ} (t s : List ℕ) → ChildWords t s q sets → HasTwo t q → w ≡ get_or sets (q * 9 + code Inactive) 0
    → eqb w 3 ≡ (is Inactive (state_of_first t s q) && is Inactive (state_of_second t s q))
both_idle {q = q} t s known two e =
    ap (λ (k : ℕ). eqb k 3) (of_two_lem two (in_one known Inactive e))
    ∙ both_pass (is Inactive (state_of_first t s q)) (is Inactive (state_of_second t s q))

pub returns-then-is_first : goal.returns-then-is_first
returns-then-is_first c t s known two =
    rw c.if-is_first.true (ap₂ (λ (a b : Bool). a && b) (both_idle t s known two c.in_state-open.ensures) c.is_set.ensures)

pub returns : goal.returns
returns c t s known two =
    rw c.if-is_first.false (ap₂ (λ (a b : Bool). a && not b) (both_idle t s known two c.in_state-open.ensures) c.is_set-2.ensures)
