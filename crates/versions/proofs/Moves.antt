-- What a move answers and leaves, by how its checks end; and that a table which passes them has its plans and its nodes. Assumes nothing.
use Prim.Native.Nat.{ℕ, ◌≤◌}
use native.Mathlib.Omega.{arith}
use mathlib.Core.Path.{◌≡◌, refl, ap, ◌∙◌}
use mathlib.Core.Bool.{false}
use mathlib.Core.List.{List, ◌++◌}
use lib.ListN.{length, take, drop}
use lib.Seq.{take-append_seam}
use borrow.Author.Tests.{ltb-false, ne_eqb, eqb-true, not-false}
use Rattle.rules.specs.Table.{version, plan_count}
use Rattle.rules.specs.WaitFor.{first_version, node_count}
use Rattle.rules.specs.Answers.{◌and_then◌, table_check, Outcome, Verdict, Done}
use Rattle.rules.specs.declared.Refusal.{Refusal}
use Rattle.rules.proofs.Outcomes.{first_done, then_done, if_done}
use Rattle.rules.proofs.Tree.{passes, tree}
use Rattle.formulas.proofs.Formed.{second_size, plans_within}
use Rattle.output.specs.Output.{Appended}
use Rattle.output.proofs.Pieces.{whole}
use Rattle.versions.specs.Room.{HasPlans, HasNodes}
use Rattle.versions.specs.Versions.{version_check, check_from, check_to1, room_check, move_answer, move_output}
use Rattle.std.specs.Prelude.{Ok, Err}

-- the checks before 24 refuse
pub refused :
    (check : Outcome) (why : Refusal) (written output : List ℕ) → check ≡ Err why
    → (Err why ≡ move_answer check written output) × (output ≡ move_output check written output)
unfolding move_answer move_output ◌and_then◌
refused check why written output e = (rw (e, move_answer) refl, rw (e, move_output) refl)

-- 24 does
pub no_room :
    (written output : List ℕ) (why : Refusal) → room_check written output ≡ Err why
    → (Err why ≡ move_answer Done written output) × (output ≡ move_output Done written output)
unfolding move_answer move_output ◌and_then◌
no_room written output why e = (rw (e, move_answer) refl, rw (e, move_output) refl)

-- it does not: there is room,
pub has_room : (written output : List ℕ) → room_check written output ≡ Done → length written ≤ length output
unfolding room_check
has_room written output e = ltb-false _ _ (if_done _ _ e)

-- and all is written
pub moved :
    (written output after : List ℕ) (end : ℕ) → room_check written output ≡ Done → Appended output 0 written after end
    → (Ok end ≡ move_answer Done written output) × (after ≡ move_output Done written output)
unfolding move_answer move_output ◌and_then◌
moved written output after end e put =
    let place : end ≡ length written = omega (arith, put.place) in
    (rw (e, move_answer) (ap Ok place), rw (e, move_output) (whole put ∙ ap (λ (k : ℕ). written ++ drop k output) place))

-- of the same checks and the same table it is the same
pub same_move :
    {check check' : Outcome} {written written' after : List ℕ} {answer : Verdict} (output : List ℕ) → check' ≡ check → written' ≡ written
    → (answer ≡ move_answer check written output) × (after ≡ move_output check written output)
    → (answer ≡ move_answer check' written' output) × (after ≡ move_output check' written' output)
same_move output e f h = rw (e, f) h

-- a table that is moved from a version passes its own checks and is of that version,
pub passed : (t : List ℕ) (from : ℕ) → check_from t from ≡ Done → table_check t ≡ Done
unfolding check_from
passed t from done = then_done _ _ done

pub moved_from : (t : List ℕ) (from : ℕ) → check_from t from ≡ Done → version t ≡ from
unfolding check_from version_check
moved_from t from done = eqb-true _ _ (not-false _ (if_done _ _ (then_done _ _ (then_done _ _ (first_done _ _ done)))))

-- has its plans,
pub has_plans : (t : List ℕ) (from : ℕ) → check_from t from ≡ Done → HasPlans t (plan_count t)
has_plans t from done =
    let good = passes t (passed t from done) in
    record { whole = refl; small = (tree t good).small; room = plans_within t good.long }

-- and in version 2 its nodes
pub has_nodes : (t : List ℕ) → check_from t 2 ≡ Done → HasNodes t (node_count t)
has_nodes t done =
    let two = moved_from t 2 done in
    let second : first_version t ≡ false = ne_eqb (version t) 1 (λ one. omega (arith, one, two)) in
    record { all = refl; room = omega (arith, second_size t second (passes t (passed t 2 done)).long) }

-- of which all are of kind 5, where it is moved to version 1
pub from_second : (t : List ℕ) → check_to1 t ≡ Done → check_from t 2 ≡ Done
unfolding check_to1
from_second t done = first_done _ _ done

-- What an answer tells of the checks.
module _ (check : Outcome) (written output : List ℕ) where
  abbrev checks : Outcome
  checks = check and_then room_check written output

  -- done: all have passed, and so many bytes are written
  answer_done : checks ≡ Done → move_answer check written output ≡ Ok (length written)
  unfolding move_answer
  answer_done e = rw (e, move_answer) refl

  answer_refused : (why : Refusal) → checks ≡ Err why → move_answer check written output ≡ Err why
  unfolding move_answer
  answer_refused why e = rw (e, move_answer) refl

  pub was_moved : (k : ℕ) → Ok k ≡ move_answer check written output → (checks ≡ Done) × (k ≡ length written)
  was_moved k told = go checks refl
    where
      go : (o : Outcome) → checks ≡ o → (checks ≡ Done) × (k ≡ length written)
      go (Ok tt) e = let same = told ∙ answer_done e in (e, cc)
      go (Err why) e =
          let other = told ∙ answer_refused why e in
          let z : ◌≡◌ {A = ℕ} 0 1 = cc in
          absurd (omega arith)

  pub was_refused : (why : Refusal) → Err why ≡ move_answer check written output → checks ≡ Err why
  was_refused why told = go checks refl
    where
      go : (o : Outcome) → checks ≡ o → checks ≡ Err why
      go (Ok tt) e =
          let other = told ∙ answer_done e in
          let z : ◌≡◌ {A = ℕ} 0 1 = cc in
          absurd (omega arith)
      go (Err which) e = let same = told ∙ answer_refused which e in e ∙ cc

  -- what was written stands at the start
  pub written_first : checks ≡ Done → take (length written) (move_output check written output) ≡ written
  unfolding move_output
  written_first e = rw (e, move_output) (take-append_seam written (drop (length written) output))
