-- Laws of the checks before a record's steps, and of a record that passes them. Assumes nothing.
use Prim.Native.Nat.{ℕ, ◌*◌, ◌-◌, ◌/◌, ◌%◌, ◌≤◌, ◌<◌}
use native.Mathlib.Omega.{arith}
use native.Mathlib.Nat.{div-mul-le_self}
use mathlib.Core.Path.{◌≡◌, ◌∙◌}
use mathlib.Core.Bool.{true, false, not, ◌||◌}
use mathlib.Core.List.{List}
use lib.Dec.{eqb, ltb}
use lib.ListN.{length}
use borrow.Author.Tests.{ltb-false}
use Rattle.rules.specs.Table.{plan_count}
use Rattle.rules.specs.Record.{step_size, step_count}
use Rattle.rules.specs.Answers.{rule_check, wrong_header, table_check, form_check, record_check, Judged, malformed, Done}
use Rattle.rules.specs.declared.Refusal.{Refusal}
use Rattle.rules.specs.declared.Refusal.TheVariants.{RecordHeader, RecordLength}
use Rattle.rules.proofs.Outcomes.{first_done, then_done, if_done, pass, stop, pass_last, stop_last, then_next, then_stops}
use Rattle.rules.proofs.Tree.{or_left, or_right}
use Rattle.parts.specs.OneStep.{Lies}
use Rattle.parts.proofs.Parts.{room}
use Rattle.std.specs.Prelude.{Err}

pub long_enough : (t r : List ℕ) → wrong_header t r ≡ false → 8 ≤ length r
long_enough t r e = ltb-false (length r) 8 (or_left _ _ (or_left _ _ (or_left _ _ (or_left _ _ e))))

pub rule_refused :
    (rule : ℕ) (t r : List ℕ) (why : Refusal) → rule_check rule ≡ Err why → Judged rule t r (Err why)
unfolding record_check
rule_refused rule t r why e = malformed (then_stops (rule_check rule) _ why e)

pub table_refused :
    (rule : ℕ) (t r : List ℕ) (why : Refusal) → rule_check rule ≡ Done → table_check t ≡ Err why → Judged rule t r (Err why)
unfolding record_check
table_refused rule t r why ruled e = malformed (then_next (rule_check rule) _ ruled ∙ then_stops (table_check t) _ why e)

module _ (rule : ℕ) (t r : List ℕ) (ruled : rule_check rule ≡ Done) (done : table_check t ≡ Done) where
  up_to_form : record_check rule t r ≡ form_check t r
  unfolding record_check
  up_to_form = then_next (rule_check rule) _ ruled ∙ then_next (table_check t) _ done

  pub header_refused : wrong_header t r ≡ true → Judged rule t r (Err RecordHeader)
  unfolding form_check
  header_refused e = malformed (up_to_form ∙ stop _ _ _ e)

  -- check 14, as the code finds it
  module _ (n : ℕ) (whole : n ≡ plan_count t) (header : wrong_header t r ≡ false) where
    pub length_refused :
        (not (eqb ((length r - 8) % (5 * n)) 0) || ltb 65535 ((length r - 8) / (5 * n))) ≡ true
        → Judged rule t r (Err RecordLength)
    unfolding form_check
    length_refused e = malformed (up_to_form ∙ pass _ _ _ header ∙ stop_last _ _ (rw whole at e))

    pub form_passes :
        (not (eqb ((length r - 8) % (5 * n)) 0) || ltb 65535 ((length r - 8) / (5 * n))) ≡ false
        → record_check rule t r ≡ Done
    unfolding form_check
    form_passes e = up_to_form ∙ pass _ _ _ header ∙ pass_last _ _ (rw whole at e)

-- A record that passes: a whole number of steps, at most 65,535 of them.
module _ (rule : ℕ) (t r : List ℕ) (done : record_check rule t r ≡ Done) where
  form : form_check t r ≡ Done
  unfolding record_check
  form = then_done (table_check t) _ (then_done (rule_check rule) _ done)

  checks : wrong_header t r ≡ false
  unfolding form_check
  checks = if_done _ _ (first_done _ _ form)

  pub few : step_count t r ≤ 65535
  unfolding form_check
  few =
      let whole = if_done _ _ (then_done _ _ form) in
      ltb-false 65535 (step_count t r) (or_right (not (eqb ((length r - 8) % step_size t r) 0)) _ whole)

  pub lies : (n steps i : ℕ) → n ≡ plan_count t → steps ≡ step_count t r → i < steps → Lies r n i
  lies n steps i whole count inside =
      let size : ℕ = step_size t r in
      let before : i < step_count t r = rw count at inside in
      rw whole
      (omega (arith, room i size (step_count t r) before, div-mul-le_self (length r - 8) size, long_enough t r checks))
