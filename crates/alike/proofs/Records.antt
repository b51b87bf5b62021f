-- Under tables that are alike, one of them a tree, a record falls into the same steps, and the same picks explain them. Assumes nothing.
use Prim.Native.Nat.{ℕ, zero, suc}
use mathlib.Core.Path.{◌≡◌}
use mathlib.Core.List.{List}
use Rattle.rules.specs.Table.{plan_count}
use Rattle.rules.specs.Step.{step_under}
use Rattle.rules.specs.Record.{Explained, step_count, words_of, states_of, states_before, ExplainedFirst}
use Rattle.rules.specs.Answers.{bad_record_word, form_check, words_check}
use Rattle.rules.proofs.Tree.{Tree}
use Rattle.alike.proofs.Alike.{Alike, same_children}
use Rattle.alike.proofs.Steps.{same_body, same_under}
use Rattle.alike.proofs.Calls.{same_least, same_bad_record_word}

module _ {t u : List ℕ} (a : Alike t u) (r : List ℕ) where
  -- where its steps lie
  pub same_count : step_count u r ≡ step_count t r
  same_count = rw a.plans

  same_words : (i : ℕ) → words_of u r i ≡ words_of t r i
  same_words i = rw a.plans

  same_states : (i : ℕ) → states_of u r i ≡ states_of t r i
  same_states i = rw a.plans

  same_before : (i : ℕ) → states_before u r i ≡ states_before t r i
  same_before zero = rw a.plans
  same_before (suc i) = same_states i

  -- checks 13 and 14, and 12 in step i
  pub same_form : form_check u r ≡ form_check t r
  unfolding form_check
  same_form = rw a.plans

  pub same_words_check : (i : ℕ) → words_check u r i ≡ words_check t r i
  unfolding words_check
  same_words_check i =
      let w : List ℕ = words_of t r i in
      rw (a.plans, same_least (bad_record_word u w) (bad_record_word t w) (plan_count t) (same_bad_record_word a w))

module _ {t u : List ℕ} (a : Alike t u) (tree : Tree t) (rule : ℕ) where
  -- the same picks explain the first k plans
  explains : (s w shown : List ℕ) (k : ℕ) → Explained rule t s w shown k → Explained rule u s w shown k
  unfolding step_under
  explains s w shown k e =
      record {
        pick = e.pick;
        allowed = λ q l. let within = rw a.plans at l in rw (same_children a q, same_body a q within) (e.allowed q within);
        agrees = rw (same_under a tree rule s w e.pick) e.agrees;
      }

  pub explains_first : (r : List ℕ) (i k : ℕ) → ExplainedFirst rule t r i k → ExplainedFirst rule u r i k
  explains_first r i k e = rw (same_before a r i, same_words a r i, same_states a r i) (explains _ _ _ k e)
