-- Document 02 (viii), how long a run can go on under held words: the two premises, which a host can compute, the figure, what it promises
-- of every run, and what the question for it answers. Assumes nothing.
use Rattle.std.specs.Prelude.{ℕ, ◌*◌, ◌≤◌, Bool, ◌&&◌, ◌≡◌, List, length, T, eqb, Ok, Err, Some, None}
use Rattle.std.proofs.Math.Bool.{cond, not}
use Rattle.rules.specs.Lists.{some_below}
use Rattle.rules.specs.Table.{plan_count, entry, retry_aborted}
use Rattle.rules.specs.Words.{word, holds}
use Rattle.rules.specs.Answers.{◌and_then◌, refuse_if, is_rule, table_check, call_words_check, call_check, run_answer, Outcome, Figure, Done}
use Rattle.rules.specs.declared.Condition.TheVariants.{Suspend, Reactivate}
use Rattle.rules.specs.declared.Refusal.TheVariants.{Lengths}

-- the figure, of n plans: six steps for each
abbrev pub most_steps : ℕ → ℕ
most_steps n = 6 * n

-- the first premise: no plan has retry-aborted
unfoldable pub nobody_retries : List ℕ → Bool
nobody_retries t = not (some_below (λ p. retry_aborted (entry t p)) (plan_count t))

-- A table and the words that are held.
module _ (t w : List ℕ) where
  -- plan p's suspend and reactivate both hold
  unfoldable pub both_hold : ℕ → Bool
  both_hold p = holds Suspend (entry t p) (word w p) && holds Reactivate (entry t p) (word w p)

  -- the second premise: no plan has both holding
  unfoldable pub nobody_holds_both : Bool
  unfolding both_hold
  nobody_holds_both = not (some_below both_hold (plan_count t))

  abbrev pub premises : Bool
  premises = nobody_retries t && nobody_holds_both

  -- the run by a rule, from states s and with a budget, rests after at most so many steps
  pub record Rests (most rule : ℕ) (s c : List ℕ) (budget : ℕ) : Type 0 where
    pub steps : ℕ
    pub few : steps ≤ most
    pub answer : run_answer rule t s w c budget ≡ Ok (Some steps)

  -- so does every run that is not refused: by either rule, from any states that pass check 11, with a budget at least that large
  pub record RestsWithin (most : ℕ) : Type 0 where
    pub rests : (rule : ℕ) (s c : List ℕ) (budget : ℕ) → call_check rule t s w c ≡ Done → most ≤ budget → Rests most rule s c budget

  -- from states s no run rests, by either rule and with whatever budget
  pub record MovesForEver (s : List ℕ) : Type 0 where
    pub moves :
        (rule : ℕ) (c : List ℕ) (budget : ℕ) → T (is_rule rule) → length c ≡ plan_count t → run_answer rule t s w c budget ≡ Ok None

  -- the checks of the question: the table's, 10 of the words, 12
  unfoldable pub bound_check : Outcome
  unfolding table_check
  bound_check = table_check t and_then refuse_if (not (eqb (length w) (4 * plan_count t))) Lengths and_then call_words_check t w

  -- its answer: where the premises hold the figure, else that none is known
  unfoldable pub bound_answer : Figure
  unfolding nobody_retries nobody_holds_both bound_check
  bound_answer =
      elim bound_check [
        | Ok tt ↦ cond premises (Ok (Some (most_steps (plan_count t)))) (Ok None)
        | Err why ↦ Err why
      ]
