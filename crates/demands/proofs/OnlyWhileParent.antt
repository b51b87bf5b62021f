-- 'In every accepted record, after every step: a sub plan is activated only while its parent is.' Assumes nothing.
use Prim.Native.Nat.{ℕ, ◌<◌}
use mathlib.Core.List.{List}
use Rattle.rules.specs.States.{state_at, is}
use Rattle.rules.specs.Record.{states_of}
use Rattle.rules.specs.HandedIn.{suits}
use Rattle.rules.specs.Answers.{Judged}
use Rattle.rules.specs.Demands.{OnlyWhileParent}
use Rattle.rules.specs.declared.PlanState.TheVariants.{Activated}
use Rattle.demands.proofs.States.{is_it, states}
use Rattle.demands.proofs.PassedStates.{passes_valid}
use Rattle.demands.proofs.Accepted.{accepted_step}
use Rattle.std.specs.Prelude.{Ok}

-- by check 11, which an accepted step keeps passed, an Activated child suits an Activated parent only
pub only_while_parent :
    (rule : ℕ) (t r : List ℕ) (steps : ℕ) → Judged rule t r (Ok steps) → (i : ℕ) → i < steps → OnlyWhileParent t (states_of t r i)
only_while_parent rule t r steps judged i l q c child activated =
    let shown = state_at (states_of t r i) in
    let suited = (passes_valid t (states_of t r i) (accepted_step rule t r steps judged i l).after).each q c child in
    is_it Activated (shown q) (states (λ x. suits x Activated) (is Activated) tt (shown q) (rw activated at suited))
