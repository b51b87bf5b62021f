-- `bad_turn` meets its contract: the first child's bit in the words of the Aborted and of the Suspended children. Assumes nothing.
use Rattle.std.proofs.Common.{◌≡◌, ap, ◌∙◌, List, [], ◌∷◌, ℕ, ◌%◌, eqb}
use Rattle.rules.specs.States.{is}
use Rattle.rules.specs.Step.{state_of_first, state_of_second}
use Rattle.rules.specs.declared.PlanState.{PlanState}
use Rattle.rules.specs.declared.PlanState.TheVariants.{Suspended, Aborted}
use Rattle.family.specs.ChildWords.{HasTwo}
use Rattle.family.specs.Tells.{InStates}
use Rattle.family.proofs.ChildWords.{in_one, of_two_lem}
use Rattle.family.proofs.TwoChildren.{first_passes}
use Rattle.family.proofs.Children.bad_turn.Goals as goal

first_in :
    (t s : List ℕ) (q : ℕ) (y : PlanState) (w : ℕ) → HasTwo t q → InStates t s q (y ∷ []) w → eqb (w % 2) 1 ≡ is y (state_of_first t s q)
first_in t s q y w two h =
    ap (λ (k : ℕ). eqb (k % 2) 1) (of_two_lem two h) ∙ first_passes (is y (state_of_first t s q)) (is y (state_of_second t s q))

pub returns : goal.returns
returns c t s known two =
    simp (
      first_in t s _ Aborted _ two (in_one known Aborted c.in_state.ensures),
      first_in t s _ Suspended _ two (in_one known Suspended c.in_state-2.ensures),
      c.after_abort.ensures,
      c.after_suspend.ensures,
    )
