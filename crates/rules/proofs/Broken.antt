-- What demand 3's last rules rule out: for each of them states, or states before and after a step, that break it, proved to break it,
-- under a sequential plan (body 1), an any-order one (3), on abort (5) and of if-then-else (8). And picks that words may not hold explain
-- nothing, there are two rules and no third, and a record's steps and a program's input have their limits. So that none of these
-- definitions can lose a part unseen. Assumes nothing.
use Prim.Native.Nat.{ℕ, zero, suc, ◌+◌, ◌*◌, ◌<◌}
use native.Mathlib.Omega.{arith}
use mathlib.Core.Bool.{false, not, true≢false, ◌||◌}
use mathlib.Core.Path.{◌≡◌, refl, sym, ap, ◌∙◌}
use mathlib.Core.Logic.{⊎_elim}
use mathlib.Core.List.{List, [], ◌∷◌}
use lib.ListN.{length}
use lib.Dec.{T, eqb}
use borrow.Author.Tests.{eq-eqb, ne_eqb}
use Rattle.rules.specs.States.{code, state_at, ended}
use Rattle.rules.specs.declared.PlanState.{PlanState}
use Rattle.rules.specs.declared.PlanState.TheVariants.{Considered, Aborted}
use Rattle.rules.specs.Table.{is_or_is_above, children_before, children}
use Rattle.rules.specs.Record.{Explained}
use Rattle.rules.specs.Demands.{SubPlan, Retried, AtMostOne, OnlyWhileParent, EndingsKept}
use Rattle.rules.specs.Answers.{◌and_then◌, refuse_if, rule_check, call_check, wrong_header, form_check, record_check, Judged, malformed, Verdict, Done}
use Rattle.rules.specs.Program.{table_of, record_of, Answered, too_long, judged}
use Rattle.rules.specs.Cases.{T1Of, states}
use Rattle.rules.specs.declared.Refusal.TheVariants.{RecordLength, InputLong, RuleNumber}
use Rattle.rules.proofs.Outcomes.{stop_last, then_stops}
use Rattle.std.specs.Prelude.{Err}

-- a root with two leaves
abbrev pair : ℕ → List ℕ
pair body = T1Of body 0 0 2 0x20

-- states with different codes are not the same
abbrev unlike : PlanState → PlanState → Type 0
unlike x y = eqb (code x) (code y) ≡ false

differ : {x y : PlanState} → x ≡ y → unlike x y → ⊥
differ {x} {y} same different = true≢false (sym (eq-eqb (code x) (code y) (ap code same)) ∙ different)

child_1 : (body : ℕ) → SubPlan (pair body) 0 1
unfolding T1Of
child_1 body = record { within = omega arith; child = tt }

child_2 : (body : ℕ) → SubPlan (pair body) 0 2
unfolding T1Of
child_2 body = record { within = omega arith; child = tt }

-- two children in execution
pub two_of_a_sequential_plan : AtMostOne (pair 1) (states 444) → ⊥
unfolding T1Of states state_at
two_of_a_sequential_plan rule = let same = rule 0 1 2 tt (child_1 1) (child_2 1) tt tt in omega arith

pub two_of_an_any_order_plan : AtMostOne (pair 3) (states 455) → ⊥
unfolding T1Of states state_at
two_of_an_any_order_plan rule = let same = rule 0 1 2 tt (child_1 3) (child_2 3) tt tt in omega arith

pub two_of_an_on_abort_plan : AtMostOne (pair 5) (states 444) → ⊥
unfolding T1Of states state_at
two_of_an_on_abort_plan rule = let same = rule 0 1 2 tt (child_1 5) (child_2 5) tt tt in omega arith

pub two_of_an_if_then_else_plan : AtMostOne (pair 8) (states 454) → ⊥
unfolding T1Of states state_at
two_of_an_if_then_else_plan rule = let same = rule 0 1 2 tt (child_1 8) (child_2 8) tt tt in omega arith

-- whatever the body: a child that is Activated while its parent is Suspended
pub activated_under_suspended : (body : ℕ) → OnlyWhileParent (pair body) (states 540) → ⊥
unfolding T1Of states state_at
activated_under_suspended body rule = differ (rule 0 1 (child_1 body) refl) refl

-- Whatever the body, plan p of the three that has ended and is shown in another state, though none of them counts as retried for it.
module _ (body before after p : ℕ) (within : p < 3) where
  abbrev RetriedFor : ℕ → Type 0
  RetriedFor a = Retried (pair body) (states before) (states after) a p

  loses :
      T (ended (state_at (states before) p)) → (state_at (states after) p ≡ state_at (states before) p → ⊥) → (RetriedFor 0 → ⊥)
      → (RetriedFor 1 → ⊥) → (RetriedFor 2 → ⊥) → EndingsKept (pair body) (states before) (states after) → ⊥
  unfolding T1Of states state_at
  loses over changed not_0 not_1 not_2 rule =
      ⊎_elim changed (λ found. nobody found.0 found.1) (rule p (omega arith) over)
    where
      nobody : (a : ℕ) → RetriedFor a → ⊥
      nobody zero r = not_0 r
      nobody (suc zero) r = not_1 r
      nobody (suc (suc zero)) r = not_2 r
      nobody (suc (suc (suc a))) r = differ r.was refl

module _ (body : ℕ) where
  -- plan 1 that is considered again, though none of the three was Aborted
  unaborted :
      (before : ℕ) → T (ended (state_at (states before) 1)) → unlike Considered (state_at (states before) 1)
      → unlike (state_at (states before) 0) Aborted → unlike (state_at (states before) 1) Aborted
      → unlike (state_at (states before) 2) Aborted → EndingsKept (pair body) (states before) (states 413) → ⊥
  unfolding T1Of states state_at
  unaborted before over new was_0 was_1 was_2 =
      loses body before 413 1 (omega arith) over (λ e. differ e new) (λ r. differ r.was was_0) (λ r. differ r.was was_1)
      (λ r. differ r.was was_2)

  -- so a Completed plan, and a Rejected one
  pub completed_again : EndingsKept (pair body) (states 463) (states 413) → ⊥
  unfolding T1Of states state_at
  completed_again = unaborted 463 tt refl refl refl refl

  pub rejected_again : EndingsKept (pair body) (states 483) (states 413) → ⊥
  unfolding T1Of states state_at
  rejected_again = unaborted 483 tt refl refl refl refl

  -- an Aborted plan that goes on at once: it is not shown Considered
  pub aborted_goes_on : EndingsKept (pair body) (states 473) (states 443) → ⊥
  unfolding T1Of states state_at
  aborted_goes_on =
      loses body 473 443 1 (omega arith) tt (λ e. differ e refl) (λ r. differ r.was refl) (λ r. differ r.now refl)
      (λ r. differ r.was refl)

  -- a Completed plan beside one that is retried: that one is not above it
  pub beside_a_retried_plan : EndingsKept (pair body) (states 476) (states 410) → ⊥
  unfolding T1Of states state_at is_or_is_above
  beside_a_retried_plan =
      loses body 476 410 2 (omega arith) tt (λ e. differ e refl) (λ r. differ r.was refl) (λ r. r.is_or_above)
      (λ r. differ r.was refl)

-- Picks that words may not hold: another rank than a child's under an any-order plan, any but 0 under a sequential one.
pub no_such_child : (rule : ℕ) (s w shown : List ℕ) (k : ℕ) (e : Explained rule (pair 3) s w shown k) → e.pick 0 ≡ 2 → ⊥
unfolding T1Of children_before children
no_such_child rule s w shown k e wild = rw wild at (e.allowed 0 (omega arith))

pub no_pick_to_make : (rule : ℕ) (s w shown : List ℕ) (k : ℕ) (e : Explained rule (pair 1) s w shown k) → e.pick 0 ≡ 1 → ⊥
unfolding T1Of children_before children
no_pick_to_make rule s w shown k e wild = rw wild at (e.allowed 0 (omega arith))

-- Numbers other than 1 and 2 are no rule: each call is refused for that, whatever else it is handed.
module _ (rule : ℕ) (not_1 : rule ≡ 1 → ⊥) (not_2 : rule ≡ 2 → ⊥) where
  no_rule : rule_check rule ≡ Err RuleNumber
  unfolding rule_check
  no_rule = stop_last (not (eqb rule 1 || eqb rule 2)) RuleNumber (rw (ne_eqb rule 1 not_1, ne_eqb rule 2 not_2) refl)

  pub no_call_without_a_rule : (t s w c : List ℕ) → call_check rule t s w c ≡ Err RuleNumber
  unfolding call_check
  no_call_without_a_rule t s w c = then_stops (rule_check rule) _ RuleNumber no_rule

  pub no_check_without_a_rule : (t r : List ℕ) → Judged rule t r (Err RuleNumber)
  unfolding record_check
  no_check_without_a_rule t r = malformed (then_stops (rule_check rule) _ RuleNumber no_rule)

-- Limits that no row shows, since what lies at them is long. A record of one plan, whose header passes: 65,535 steps of five bytes each are
-- not too many, 65,536 are.
abbrev alone : List ℕ
alone = 65 ∷ 80 ∷ 84 ∷ 1 ∷ 0 ∷ 1 ∷ 0 ∷ 0 ∷ 255 ∷ 255 ∷ 0 ∷ 0 ∷ 0 ∷ 0 ∷ 0 ∷ 0 ∷ []

module _ (r : List ℕ) (good : wrong_header alone r ≡ false) where
  pub most_steps : length r ≡ 8 + 5 * 65535 → form_check alone r ≡ Done
  unfolding form_check ◌and_then◌ refuse_if
  most_steps size = rw (good, size) refl

  pub too_many_steps : length r ≡ 8 + 5 * 65536 → form_check alone r ≡ Err RecordLength
  unfolding form_check ◌and_then◌ refuse_if
  too_many_steps size = rw (good, size) refl

-- The program's input: 65,536 bytes are judged, one more is 16.
module _ (input : List ℕ) where
  pub longest_input : {v : Verdict} → length input ≡ 65536 → Judged 2 (table_of input) (record_of input) v → Answered input v
  longest_input size verdict = judged (omega arith) verdict

  pub input_too_long : length input ≡ 65537 → Answered input (Err InputLong)
  input_too_long size = too_long (omega arith)
