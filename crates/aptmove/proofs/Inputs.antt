-- What an input comes to, by its length and its version, and that its moved table fits the program's buffer. Assumes nothing.
use Prim.Native.Nat.{ℕ, ◌≤◌, ◌<◌}
use native.Mathlib.Omega.{arith}
use mathlib.Core.Path.{◌≡◌, refl, sym, ap, ◌∙◌}
use mathlib.Core.Bool.{Bool, true, false, cond}
use mathlib.Core.List.{List, []}
use lib.ListN.{length, take}
use lib.Seq.{length-take-le}
use Rattle.io.specs.Counts.{IsPrefixLen}
use borrow.Author.Tests.{lt-ltb, le-ltb}
use Rattle.rules.specs.Table.{plan_count}
use Rattle.rules.specs.WaitFor.{first_version}
use Rattle.rules.specs.Answers.{◌and_then◌, Outcome, Done}
use Rattle.rules.specs.Program.{line}
use Rattle.rules.specs.declared.Refusal.{Refusal}
use Rattle.rules.specs.declared.Refusal.TheVariants.{InputLong}
use Rattle.rules.proofs.Outcomes.{pass, pass_last, stop, then_done, then_next, then_stops, refused_not_done, first_done}
use Rattle.versions.specs.Versions.{in_version1, in_version2, check_to1, check_to2, room_check, move_answer, move_output}
use Rattle.versions.proofs.Laid.{length_1, length_2, nodes_within}
use Rattle.versions.proofs.Moves.{has_plans, from_second, was_moved, was_refused, written_first}
use Rattle.aptmove.specs.Moving.{check, moved, printed, complained}
use Rattle.std.specs.Prelude.{Ok, Err}

module _ (input : List ℕ) where
  pub too_long : 65536 < length input → check input ≡ Err InputLong
  unfolding check
  too_long l = stop _ _ _ (lt-ltb _ _ l)

  -- what the version decides
  abbrev check_if : Bool → Outcome
  check_if first = cond first (check_to2 input) (check_to1 input)

  abbrev moved_if : Bool → List ℕ
  moved_if first = cond first (in_version2 input) (in_version1 input)

  pub check_by : (first : Bool) → first_version input ≡ first → length input ≤ 65536 → check input ≡ check_if first
  unfolding check
  check_by first e l = pass _ _ _ (le-ltb _ _ l) ∙ ap check_if e

  pub moved_by : (first : Bool) → first_version input ≡ first → moved input ≡ moved_if first
  unfolding moved
  moved_by first e = ap moved_if e

  -- a table in version 2, and in version 1
  fits_2 : check_to2 input ≡ Done → length (in_version2 input) ≤ 4096
  fits_2 done =
      let has = has_plans input 1 done in
      omega (arith, has.small, has.room, length_2 input has.room, nodes_within input (plan_count input))

  fits_1 : check_to1 input ≡ Done → length (in_version1 input) ≤ 4096
  fits_1 done =
      let has = has_plans input 2 (from_second input done) in
      omega (arith, has.small, has.room, length_1 input has.room)

  pub fits : check input ≡ Done → length (moved input) ≤ 4096
  unfolding check moved
  fits done = go (first_version input) (then_done _ _ done)
    where
      go : (first : Bool) → check_if first ≡ Done → length (moved_if first) ≤ 4096
      go true passed = fits_2 passed
      go false passed = fits_1 passed

  -- so 24 is never told
  pub never_short :
      (why : Refusal) (out : List ℕ) → 4096 ≤ length out → (check input and_then room_check (moved input) out) ≡ Err why
      → check input ≡ Err why
  unfolding room_check
  never_short why out room e = go (check input) refl
    where
      go : (o : Outcome) → check input ≡ o → check input ≡ Err why
      go (Ok tt) d =
          let fit = pass_last _ _ (le-ltb (length out) (length (moved input)) (omega (arith, fits d))) in
          refused_not_done why (sym e ∙ then_next _ _ d ∙ fit)
      go (Err which) d = d ∙ sym (then_stops _ _ which d) ∙ e

  -- what is written, by how the checks end
  if_done : check input ≡ Done → (printed input ≡ moved input) × (complained input ≡ [])
  unfolding printed complained
  if_done e = (rw (e, printed) refl, rw (e, complained) refl)

  if_refused : (why : Refusal) → check input ≡ Err why → (printed input ≡ []) × (complained input ≡ line 0 (Err why))
  unfolding printed complained
  if_refused why e = (rw (e, printed) refl, rw (e, complained) refl)

  -- so a move into a buffer with room for it leaves what is written
  module _ (before after : List ℕ) (room : 4096 ≤ length before) (same : length after ≡ length before)
      (left : after ≡ move_output (check input) (moved input) before) where
    module _ (end : ℕ) (answer : Ok end ≡ move_answer (check input) (moved input) before) where
      done : check input ≡ Done
      done = first_done _ _ (was_moved _ _ _ _ answer).0

      size : end ≡ length (moved input)
      size = (was_moved _ _ _ _ answer).1

      pub table_lies : IsPrefixLen end after
      table_lies = let fit = fits done in let is = size in (omega arith, sym (length-take-le _ _ (omega arith)))

      pub table_is : take end after ≡ printed input
      table_is =
          ap (λ (k : ℕ). take k after) size ∙ ap (take (length (moved input))) left
          ∙ written_first _ _ _ (was_moved _ _ _ _ answer).0
          ∙ sym (if_done done).0

      pub no_complaint : [] ≡ complained input
      no_complaint = sym (if_done done).1

    module _ (why : Refusal) (answer : Err why ≡ move_answer (check input) (moved input) before) where
      refused : check input ≡ Err why
      refused = never_short why before room (was_refused _ _ _ _ answer)

      pub no_table : [] ≡ printed input
      no_table = sym (if_refused why refused).0

      pub complaint_is : line 0 (Err why) ≡ complained input
      complaint_is = sym (if_refused why refused).1
