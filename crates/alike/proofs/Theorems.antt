-- What document 02 (vi) promises of a table that is moved into the other version: two tables that are alike, and that both pass their
-- checks, answer alike. Every call refuses the same or leaves the same states and causes, and every record gets the same verdicts. Assumes
-- nothing.
use Prim.Native.Nat.{ℕ, suc, ◌-◌}
use mathlib.Core.Path.{◌≡◌, sym, ◌∙◌, ap}
use mathlib.Core.Bool.{cond, ◌&&◌}
use mathlib.Core.List.{List, []}
use lib.ListN.{length, take, drop}
use lib.Dec.{eqb, ltb}
use Rattle.rules.specs.Table.{plan_count}
use Rattle.rules.specs.Step.{step, step_under}
use Rattle.rules.specs.Answers.{◌and_then◌, is_done, rule_check, table_check, table_verdict, call_check, rest_answer, step_answer, step_states, step_causes, run_answer, run_states, run_causes, record_check, Judged, Outcome, Verdict, Done}
use Rattle.rules.specs.SubTree.{last_descendant, sub_tree}
use Rattle.rules.specs.declared.Refusal.{Refusal}
use Rattle.rules.proofs.Tree.{Tree, tree, passes as table_passes, accepted as table_accepted}
use Rattle.rules.proofs.Outcomes.{then_next}
use Rattle.rules.proofs.Verdicts.{still_judged}
use Rattle.alike.specs.SameCalls.{SameCalls}
use Rattle.alike.proofs.Alike.{Alike, alike_sym}
use Rattle.alike.proofs.Steps.{same_under, same_by_words, same_causes}
use Rattle.alike.proofs.Calls.{same_lent, same_rest, same_rest_states, same_rest_causes}
use Rattle.alike.proofs.SubTrees.{same_last}
use Rattle.alike.proofs.Records.{same_count, same_form, same_words_check, explains_first}
use Rattle.std.specs.Prelude.{Ok, Err}

-- what a call gives by its check
abbrev by_check : {A : Type 0} → Outcome → A → (Refusal → A) → A
by_check o done refused = elim o [ Ok tt ↦ done | Err why ↦ refused why ]

same_by_check :
    {A : Type 0} {o o' : Outcome} {x x' : A} (refused : Refusal → A) → o ≡ o' → x ≡ x' → by_check o x refused ≡ by_check o' x' refused
same_by_check refused e e' = rw (e, e')

-- what the sub tree question shows, by the table's check, its number of plans and the plan's last descendant
abbrev shown : List ℕ → ℕ → Outcome → ℕ → ℕ → List ℕ
shown s p o n last = cond (is_done o && eqb (length s) n && ltb p n) (take (suc last - p) (drop p s)) []

passed_tree : {t : List ℕ} → table_check t ≡ Done → Tree t
passed_tree {t} done = tree t (table_passes t done)

-- One step leads to the same states: by any rule number, from any states, under any words, whatever is picked; and so by the words' own
-- picks.
module _ {t u : List ℕ} (a : Alike t u) (done : table_check t ≡ Done) (rule : ℕ) (s w : List ℕ) where
  pub same_step : (pick : ℕ → ℕ) → step_under rule u s w pick ≡ step_under rule t s w pick
  same_step = same_under a (passed_tree done) rule s w

  pub same_step_by_words : step rule u s w ≡ step rule t s w
  same_step_by_words = same_by_words a (passed_tree done) rule s w

module _ {t u : List ℕ} (a : Alike t u) (done : table_check t ≡ Done) (done' : table_check u ≡ Done) where
  shape : Tree t
  shape = passed_tree done

  -- both tables pass: what is checked after them decides
  same_checked :
      (rule : ℕ) {next next' : Outcome} → next' ≡ next
      → (rule_check rule and_then table_check u and_then next') ≡ (rule_check rule and_then table_check t and_then next)
  same_checked rule {next} {next'} e =
      ap (λ (o : Outcome). rule_check rule and_then o)
      (then_next (table_check u) next' done' ∙ e ∙ sym (then_next (table_check t) next done))

  -- Reading the one table answers what reading the other does.
  pub same_table_verdict : table_verdict u ≡ table_verdict t
  same_table_verdict = table_accepted u done' ∙ ap Ok a.plans ∙ sym (table_accepted t done)

  -- A call is refused under both tables, by the same number at the same place, or under neither; and it leaves the same states and causes.
  module _ (rule : ℕ) (s w c : List ℕ) where
    pub same_call_check : call_check rule u s w c ≡ call_check rule t s w c
    unfolding call_check
    same_call_check = same_checked rule (same_lent a shape s w c)

    -- the step
    pub same_step_answer : step_answer rule u s w c ≡ step_answer rule t s w c
    same_step_answer = same_call_check

    pub same_step_states : step_states rule u s w c ≡ step_states rule t s w c
    same_step_states = same_by_check (λ why. s) same_call_check (same_step_by_words a done rule s w)

    pub same_step_causes : step_causes rule u s w c ≡ step_causes rule t s w c
    same_step_causes = same_by_check (λ why. c) same_call_check (same_causes a shape rule s w)

    -- the run
    pub same_run_answer : (budget : ℕ) → run_answer rule u s w c budget ≡ run_answer rule t s w c budget
    unfolding run_answer
    same_run_answer budget = same_by_check Err same_call_check (ap rest_answer (same_rest a shape rule s w budget))

    pub same_run_states : (budget : ℕ) → run_states rule u s w c budget ≡ run_states rule t s w c budget
    unfolding run_states
    same_run_states budget = same_by_check (λ why. s) same_call_check (same_rest_states a shape rule s w budget)

    pub same_run_causes : (budget : ℕ) → run_causes rule u s w c budget ≡ run_causes rule t s w c budget
    unfolding run_causes
    same_run_causes budget = same_by_check (λ why. c) same_call_check (same_rest_causes a shape rule s w budget)

  -- The sub tree question shows the same states.
  pub same_sub_tree : (s : List ℕ) (p : ℕ) → sub_tree u s p ≡ sub_tree t s p
  unfolding sub_tree
  same_sub_tree s p =
      ap (λ (o : Outcome). shown s p o (plan_count u) (last_descendant u p)) (done' ∙ sym done)
      ∙ ap (λ (n : ℕ). shown s p (table_check t) n (last_descendant u p)) a.plans
      ∙ ap (shown s p (table_check t) (plan_count t)) (same_last a shape p)

  -- A verdict that the rules permit on a record under the one table they permit under the other (and back, by `alike_sym`).
  module _ (rule : ℕ) (r : List ℕ) where
    pub same_record_check : record_check rule u r ≡ record_check rule t r
    unfolding record_check
    same_record_check = same_checked rule (same_form a r)

    pub same_verdict : (v : Verdict) → Judged rule t r v → Judged rule u r v
    same_verdict =
        still_judged
        (record {
          checked = same_record_check;
          plans = a.plans;
          steps = same_count a r;
          words = same_words_check a r;
          there = λ good i k l. explains_first a shape rule r i k;
          back = λ good i k l. explains_first (alike_sym a) (passed_tree done') rule r i k;
        })

-- so every call is,
pub same_calls : {t u : List ℕ} → Alike t u → table_check t ≡ Done → table_check u ≡ Done → SameCalls t u
same_calls a done done' =
    record {
      table_verdict_same = same_table_verdict a done done';
      step_answer_same = same_step_answer a done done';
      step_states_same = same_step_states a done done';
      step_causes_same = same_step_causes a done done';
      run_answer_same = same_run_answer a done done';
      run_states_same = same_run_states a done done';
      run_causes_same = same_run_causes a done done';
      sub_trees = same_sub_tree a done done';
      verdicts = λ rule r v. (same_verdict a done done' rule r v, same_verdict (alike_sym a) done' done rule r v);
    }

-- and of three tables, one after the other, under the first and the last
pub same_calls_then : {t u x : List ℕ} → SameCalls t u → SameCalls u x → SameCalls t x
same_calls_then one two =
    record {
      table_verdict_same = two.table_verdict_same ∙ one.table_verdict_same;
      step_answer_same = λ rule s w c. two.step_answer_same rule s w c ∙ one.step_answer_same rule s w c;
      step_states_same = λ rule s w c. two.step_states_same rule s w c ∙ one.step_states_same rule s w c;
      step_causes_same = λ rule s w c. two.step_causes_same rule s w c ∙ one.step_causes_same rule s w c;
      run_answer_same = λ rule s w c budget. two.run_answer_same rule s w c budget ∙ one.run_answer_same rule s w c budget;
      run_states_same = λ rule s w c budget. two.run_states_same rule s w c budget ∙ one.run_states_same rule s w c budget;
      run_causes_same = λ rule s w c budget. two.run_causes_same rule s w c budget ∙ one.run_causes_same rule s w c budget;
      sub_trees = λ s p. two.sub_trees s p ∙ one.sub_trees s p;
      verdicts = λ rule r v.
          let there = one.verdicts rule r v in
          let on = two.verdicts rule r v in
          (λ judged. on.0 (there.0 judged), λ judged. there.1 (on.1 judged));
    }
