-- Why demand 3's last rules are not empty, though a tree that never starts keeps them too: a record, accepted by both rules, in which a
-- plan is activated, suspended, aborted, retried and completed. And why the rule is named: a record that rule 1 explains and rule 2 does
-- not, one the other way round, and one that neither does, for different plans. Assumes nothing.
use Prim.Native.Nat.{ℕ, zero, suc, ◌<◌}
use native.Mathlib.Omega.{arith}
use mathlib.Core.Bool.{Bool, true, ◌&&◌}
use mathlib.Core.Path.{◌≡◌, refl, sym, ap}
use mathlib.Core.Logic.{◌⊎◌, inl, inr}
use mathlib.Core.List.{List, [], ◌∷◌, ◌++◌}
use lib.ListN.{take}
use lib.Dec.{T}
use Rattle.rules.specs.Lists.{same, least_from}
use Rattle.rules.specs.Bytes.{byte_at}
use Rattle.rules.specs.States.{state_at}
use Rattle.rules.specs.Table.{plan_count, children_before, children, rank, is_or_is_above}
use Rattle.rules.specs.WaitFor.{wait_for}
use Rattle.rules.specs.Words.{holds, satisfiable}
use Rattle.rules.specs.Step.{
  move_by,
  too_many_lost,
  all_ended,
  children_complete,
  first_not_done,
  gate_open,
  may_activate,
  fallback,
  ready_or,
  chosen,
  due,
  orders,
  step_first,
  step_by,
  step_under,
}
use Rattle.rules.specs.Record.{step_count, words_of, states_of, states_before}
use Rattle.rules.specs.Answers.{◌and_then◌, refuse_if, refuse_at, undefined_entry, unfit_entry, unrooted, bad_parent, undefined_byte, unfit, too_many, bad_wait, header_check, plans_check, rule_check, table_check, bad_record_word, is_done, form_check, record_check, words_check, StepPasses, Judged, unexplained, accepted, Done}
use Rattle.rules.specs.Program.{table_length, Answered, judged}
use Rattle.rules.specs.Demands.{Retried}
use Rattle.rules.specs.declared.PlanState.{PlanState}
use Rattle.rules.specs.declared.PlanState.TheVariants.{Activated, Suspended, Completed, Aborted}
use Rattle.rules.specs.declared.Refusal.TheVariants.{Unexplained}
use Rattle.rules.proofs.Outcomes.{is_done_lem}
use Rattle.rules.proofs.Same.{same_equal}
use Rattle.demands.specs.Witness.{activated_child, witness}
use Rattle.demands.proofs.Numbers.{last_or}
use Rattle.demands.proofs.Tests.{left, right, is_true}
use Rattle.demands.proofs.Witness.{witness_explains}
use Rattle.demands.proofs.PlanByPlan.{explained_fewer, unexplained as not_explained}
use Rattle.demands.proofs.Accepted.{table_done}
use Rattle.std.specs.Prelude.{Ok, Err}

-- A record whose steps pass a computed test is accepted: the witness's picks lead to the states shown. Where they lead a plan elsewhere,
-- and the plans before it to what is shown, it is refused there.
module _ (rule : ℕ) (t r : List ℕ) where
  abbrev leads : ℕ → List ℕ
  leads i = step_under rule t (states_before t r i) (words_of t r i) (witness t (states_before t r i) (states_of t r i))

  abbrev step_holds : ℕ → Bool
  step_holds i = is_done (words_check t r i) && same (leads i) (states_of t r i)

  abbrev steps_hold : ℕ → Bool
  steps_hold zero = true
  steps_hold (suc k) = step_holds k && steps_hold k

  step_passes : record_check rule t r ≡ Done → (i : ℕ) → T (step_holds i) → StepPasses rule t r i
  step_passes good i h =
      let s = states_before t r i in
      let agrees = same_equal (leads i) (states_of t r i) (is_true _ (right (is_done (words_check t r i)) _ h)) in
      record {
        words = is_done_lem (words_check t r i) (left (is_done (words_check t r i)) _ h);
        states =
            (witness_explains rule t s (words_of t r i) (states_of t r i) (table_done rule t r good) (plan_count t) (omega arith)).1
            (ap (take (plan_count t)) agrees);
      }

  steps_pass : record_check rule t r ≡ Done → (k : ℕ) → T (steps_hold k) → (i : ℕ) → i < k → StepPasses rule t r i
  steps_pass good zero h i l = absurd (omega arith)
  steps_pass good (suc k) h i l = go (last_or i k l) (steps_pass good k (right (step_holds k) _ h) i)
    where
      go : (i ≡ k) ⊎ (i < k) → (i < k → StepPasses rule t r i) → StepPasses rule t r i
      go (inl e) ih = step_passes good i (rw e (left (step_holds k) (steps_hold k) h))
      go (inr m) ih = ih m

  accepted_by_test : record_check rule t r ≡ Done → T (steps_hold (step_count t r)) → Judged rule t r (Ok (step_count t r))
  accepted_by_test good h = accepted good (steps_pass good (step_count t r) h)

  refused_by_test :
      record_check rule t r ≡ Done → (i p : ℕ) → i < step_count t r → T (steps_hold i) → T (is_done (words_check t r i)) → p < plan_count t
      → take p (leads i) ≡ take p (states_of t r i) → (byte_at (leads i) p ≡ byte_at (states_of t r i) p → ⊥)
      → Judged rule t r (Err (Unexplained (suc i) p))
  refused_by_test good i p l h words inside alike differs =
      let s = states_before t r i in
      let w = words_of t r i in
      let shown = states_of t r i in
      let done = table_done rule t r good in
      let explained = (witness_explains rule t s w shown done p (omega arith)).1 alike in
      unexplained i p good l (steps_pass good i h) (is_done_lem (words_check t r i) words) inside
      (λ j below. explained_fewer rule t s w shown (suc j) p below explained)
      (not_explained rule t s w shown done p inside differs)

-- A table of two plans: plan 0, unordered, retries its aborted children and can be suspended; plan 1 can be aborted; both complete when
-- told to. Plan 0's wait number and plan 1's flags are as given.
abbrev ward_with : ℕ → ℕ → List ℕ
ward_with m flags =
    65 ∷ 80 ∷ 84 ∷ 1 ∷ 0 ∷ 2 ∷ 0 ∷ 0
    ∷ 255 ∷ 255 ∷ 4 ∷ 1 ∷ 36 ∷ 0 ∷ 0 ∷ m
    ∷ 0 ∷ 0 ∷ 0 ∷ flags ∷ 48 ∷ 0 ∷ 0 ∷ 0
    ∷ []

-- plan 0 waits for nobody, and for plan 1
abbrev pub ward : List ℕ
ward = ward_with 0 0

abbrev pub mandatory : List ℕ
mandatory = ward_with 1 4

-- a step: the two words, which are below 256, and the two states
abbrev pub then : List ℕ → ℕ → ℕ → ℕ → ℕ → List ℕ
then before w v x y = before ++ (w ∷ 0 ∷ 0 ∷ 0 ∷ v ∷ 0 ∷ 0 ∷ 0 ∷ x ∷ y ∷ [])

abbrev pub header : List ℕ
header = 65 ∷ 80 ∷ 82 ∷ 1 ∷ 0 ∷ 2 ∷ 0 ∷ 0 ∷ []

-- steps 1 to 8: both plans are activated. 9: plan 0 is told to suspend, and plan 1 is with it. 11: plan 1 is told to abort. 12: it is
-- retried. 16 and 17: each is told to complete
abbrev pub begun : List ℕ
begun = then (then (then (then (then (then (then (then header 0 0 1 0) 0 0 2 0) 0 0 3 0) 0 0 4 0) 0 0 4 1) 0 0 4 2) 0 0 4 3) 0 0 4 4

abbrev pub morning : List ℕ
morning =
    then
    (then (then (then (then (then (then (then (then begun 4 0 5 5) 0 0 4 4) 0 16 4 7) 0 0 4 1) 0 0 4 2) 0 0 4 3) 0 0 4 4) 0 32 4 6)
    32 0 6 6

-- plan 1, which is mandatory, is told to abort in step 9; then plan 0 aborts, or plan 1 is retried, or neither
abbrev pub sinks : List ℕ
sinks = then (then begun 0 16 4 7) 0 0 7 7

abbrev pub going_on : List ℕ
going_on = then (then begun 0 16 4 7) 0 0 4 1

abbrev pub waits : List ℕ
waits = then (then begun 0 16 4 7) 0 0 4 7

-- plan 1 after step k
abbrev pub plan_1 : ℕ → PlanState
plan_1 k = state_at (states_before ward morning k) 1

pub record Lively : Type 0 where
  pub judged : Judged 1 ward morning (Ok 17) × Judged 2 ward morning (Ok 17)
  pub activated : plan_1 8 ≡ Activated
  pub suspended : plan_1 9 ≡ Suspended
  pub aborted : plan_1 11 ≡ Aborted
  pub retried : Retried ward (states_before ward morning 11) (states_of ward morning 11) 1 1
  pub completed : plan_1 16 ≡ Completed
  pub old_sinks : Judged 1 mandatory sinks (Ok 10)
  pub new_does_not_sink : Judged 2 mandatory sinks (Err (Unexplained 10 0))
  pub new_goes_on : Judged 2 mandatory going_on (Ok 10)
  pub old_does_not_go_on : Judged 1 mandatory going_on (Err (Unexplained 10 0))
  pub old_does_not_wait : Judged 1 mandatory waits (Err (Unexplained 10 0))
  pub new_does_not_wait : Judged 2 mandatory waits (Err (Unexplained 10 1))
  -- the program goes by rule 2
  pub program_goes_on : Answered (mandatory ++ going_on) (Ok 10)

-- Activated, and Considered, are not Aborted
differ : ◌≡◌ {A = ℕ} 4 7 → ⊥
differ e = omega (arith, e)

differ_1 : ◌≡◌ {A = ℕ} 1 7 → ⊥
differ_1 e = omega (arith, e)

pub lively : Lively
unfolding
    least_from state_at children_before children rank is_or_is_above wait_for holds satisfiable move_by too_many_lost all_ended children_complete
    first_not_done gate_open may_activate fallback ready_or chosen due orders step_first step_by step_under undefined_entry unfit_entry unrooted
    bad_parent undefined_byte unfit too_many bad_wait ◌and_then◌ refuse_if refuse_at header_check plans_check rule_check table_check
    bad_record_word form_check record_check words_check table_length activated_child witness
lively =
    record {
      judged = (accepted_by_test 1 ward morning refl tt, accepted_by_test 2 ward morning refl tt);
      activated = refl;
      suspended = refl;
      aborted = refl;
      retried = record { is_or_above = tt; was = refl; now = refl };
      completed = refl;
      old_sinks = accepted_by_test 1 mandatory sinks refl tt;
      new_does_not_sink = refused_by_test 2 mandatory sinks refl 9 0 (omega arith) tt tt (omega arith) refl (λ e. absurd (differ e));
      new_goes_on = accepted_by_test 2 mandatory going_on refl tt;
      old_does_not_go_on =
          refused_by_test 1 mandatory going_on refl 9 0 (omega arith) tt tt (omega arith) refl (λ e. absurd (differ (sym e)));
      old_does_not_wait = refused_by_test 1 mandatory waits refl 9 0 (omega arith) tt tt (omega arith) refl (λ e. absurd (differ (sym e)));
      new_does_not_wait = refused_by_test 2 mandatory waits refl 9 1 (omega arith) tt tt (omega arith) refl (λ e. absurd (differ_1 e));
      program_goes_on = judged (omega arith) (accepted_by_test 2 mandatory going_on refl tt);
    }
