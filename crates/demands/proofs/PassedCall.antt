-- A call that passes its checks: what is then known of its table, states and words, and of the states after each step of a run. Assumes
-- nothing.
use Prim.Native.Nat.{ℕ, zero, suc, ◌*◌}
use mathlib.Core.Path.{◌≡◌, refl}
use mathlib.Core.Bool.{false, not, ◌||◌}
use mathlib.Core.List.{List}
use lib.Dec.{eqb}
use lib.ListN.{length}
use borrow.Author.Tests.{eqb-true, not-false}
use Rattle.rules.specs.Table.{plan_count}
use Rattle.rules.specs.Words.{word, pick_of}
use Rattle.rules.specs.Step.{step}
use Rattle.rules.specs.Rest.{after}
use Rattle.rules.specs.HandedIn.{bad_state}
use Rattle.rules.specs.Answers.{bad_word, rule_check, table_check, wrong_lengths, lent_check, call_check, Done}
use Rattle.rules.proofs.Outcomes.{first_done, then_done, if_done, at_done}
use Rattle.rules.proofs.Least.{nowhere}
use Rattle.rules.proofs.Tree.{or_left, or_right}
use Rattle.demands.specs.PassesStates.{PassesStates}
use Rattle.demands.specs.BranchesAgree.{BranchesAgree}
use Rattle.demands.proofs.PassedWords.{call_words}
use Rattle.demands.proofs.Valid.{step_passes}

-- check 10 passes: the lengths are right
pub lengths_agree :
    (t s w c : List ℕ) → wrong_lengths t s w c ≡ false
    → (length s ≡ plan_count t) × (length w ≡ 4 * plan_count t) × (length c ≡ plan_count t)
lengths_agree t s w c e =
    let states = not (eqb (length s) (plan_count t)) in
    let words = not (eqb (length w) (4 * plan_count t)) in
    let causes = not (eqb (length c) (plan_count t)) in
    let before = or_left (states || words) causes e in (
      eqb-true _ _ (not-false _ (or_left states words before)),
      eqb-true _ _ (not-false _ (or_right states words before)),
      eqb-true _ _ (not-false _ (or_right (states || words) causes e)),
    )

-- of the room for causes only the length counts
pub room_counts :
    (rule : ℕ) (t s w c d : List ℕ) → length c ≡ length d → call_check rule t s w c ≡ call_check rule t s w d
unfolding call_check lent_check
room_counts rule t s w c d e = rw e refl

-- A call that passes: its table, what is lent with it, and of that the lengths and the states.
module _ (rule : ℕ) (t s w c : List ℕ) (done : call_check rule t s w c ≡ Done) where
  pub table_passes : table_check t ≡ Done
  unfolding call_check
  table_passes = first_done (table_check t) _ (then_done (rule_check rule) _ done)

  pub lent_passes : lent_check t s w c ≡ Done
  unfolding call_check
  lent_passes = then_done (table_check t) _ (then_done (rule_check rule) _ done)

  pub lengths : (length s ≡ plan_count t) × (length w ≡ 4 * plan_count t) × (length c ≡ plan_count t)
  unfolding lent_check
  lengths = lengths_agree t s w c (if_done _ _ (first_done _ _ lent_passes))

  pub handed_in : PassesStates t s
  unfolding lent_check
  handed_in =
      record {
        long = lengths.0;
        unbroken = nowhere (bad_state t s) (plan_count t) (at_done _ _ (first_done _ _ (then_done _ _ lent_passes)));
      }

  -- and of its words
  pub words_in : BranchesAgree t w
  unfolding lent_check
  words_in = call_words t w (nowhere (bad_word t w) (plan_count t) (at_done _ _ (then_done _ _ (then_done _ _ lent_passes))))

-- what passes check 11 goes on passing it
pub after_passes :
    (rule : ℕ) (t s w : List ℕ) → table_check t ≡ Done → PassesStates t s → BranchesAgree t w → (k : ℕ)
    → PassesStates t (after rule t s w k)
unfolding after step
after_passes rule t s w done passes words zero = passes
after_passes rule t s w done passes words (suc k) =
    step_passes rule t (after rule t s w k) w (λ q. pick_of (word w q)) done (after_passes rule t s w done passes words k) words
