-- `cause` meets its contract: a plan that stays, and one that moved. Assumes nothing.
use Rattle.std.proofs.Common.{sym, ap₂, ◌∙◌, ℕ}
use Rattle.rules.specs.Words.{holds}
use Rattle.rules.specs.declared.Condition.TheVariants.{Abort}
use Rattle.rules.specs.declared.PlanEntry.{PlanEntry}
use Rattle.rules.proofs.Codes.{state_is}
use Rattle.rules.proofs.Derived.{same_state}
use Rattle.moves.proofs.Causes.{told_stays, told_moves}
use Rattle.moves.proofs.cause.Goals as goal

pub returns-then-eq : goal.returns-then-eq
returns-then-eq c =
    let was = c.from_byte-was.ensures ∙ sym (state_is _ _) in
    let state = c.from_byte-state.ensures ∙ sym (state_is _ _) in
    let same = c.eq.ensures ∙ same_state c.from_byte-state.result c.from_byte-was.result in
    told_stays _ _ _ _ _ _ _ was state _ same c.if-eq.true

pub returns : goal.returns
returns c =
    let was = c.from_byte-was.ensures ∙ sym (state_is _ _) in
    let state = c.from_byte-state.ensures ∙ sym (state_is _ _) in
    let same = c.eq.ensures ∙ same_state c.from_byte-state.result c.from_byte-was.result in
    let aborts = c.holds-aborts.ensures ∙ ap₂ (λ (e : PlanEntry) (x : ℕ). holds Abort e x) c.entry_at.ensures c.word_at.ensures in
    told_moves _ _ _ _ _ _ _ was state _ same c.if-eq.false _ _ _ c.parent_state.ensures aborts c.cause_of_move.ensures
