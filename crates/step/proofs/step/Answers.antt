-- `step` meets its contract: its three work spaces are large enough. Assumes nothing.
use Rattle.std.proofs.Common.{◌≡◌, ap, ◌∙◌, Bool, cond, List, ℕ, length, ltb, arith}
use borrow.Author.Tests.{le-ltb}
use Rattle.rules.specs.Table.{plan_count}
use Rattle.rules.specs.Answers.{header_check, Done}
use Rattle.rules.proofs.Tree.{header}
use Rattle.step.proofs.step.Goals as goal

-- where the header passes its plans have been counted
counted : (t : List ℕ) (n : ℕ) → n ≡ cond (ltb (length t) 8) 0 (plan_count t) → header_check t ≡ Done → n ≡ plan_count t
counted t n e good = e ∙ ap (λ (b : Bool). cond b 0 (plan_count t)) (le-ltb _ _ (header t good).room)

pub step_in-requires-clause-room : goal.step_in-requires-clause-room
step_in-requires-clause-room c = λ good. omega (arith, counted _ _ c.plans_told.ensures good)

pub step_in-requires-in-17-to-64-clause-room : goal.step_in-requires-in-17-to-64-clause-room
step_in-requires-in-17-to-64-clause-room c = λ good. omega (arith, counted _ _ c.plans_told.ensures good)

pub step_in-requires-in_default-clause-room : goal.step_in-requires-in_default-clause-room
step_in-requires-in_default-clause-room c = λ good. (header _ good).small
