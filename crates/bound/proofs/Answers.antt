-- What the question answers, by its checks one after the other and by the premises. Assumes nothing.
use Prim.Native.Nat.{ℕ, ◌*◌}
use mathlib.Core.Bool.{Bool, true, false, cond, not, ◌&&◌, ◌||◌}
use mathlib.Core.Path.{◌≡◌, refl, sym, ap, ◌∙◌}
use mathlib.Core.List.{List}
use lib.ListN.{length}
use borrow.Author.Tests.{eq-eqb, ne_eqb}
use Rattle.rules.specs.Lists.{some_below}
use Rattle.rules.specs.Table.{plan_count, entry, retry_aborted}
use Rattle.rules.specs.Answers.{table_check, call_words_check, Figure, Done}
use Rattle.rules.specs.declared.Refusal.{Refusal}
use Rattle.rules.specs.declared.Refusal.TheVariants.{Lengths}
use Rattle.rules.proofs.Below.{some_either}
use Rattle.rules.proofs.Outcomes.{pass, stop, then_next, then_stops}
use Rattle.demands.specs.Bound.{most_steps, nobody_retries, both_hold, nobody_holds_both, premises, bound_check, bound_answer}
use Rattle.bound.specs.Asked.{breaks_premise}
use Rattle.std.specs.Prelude.{Option, Ok, Err, Some, None}

neither : (a b : Bool) → not (a || b) ≡ (not a && not b)
neither true b = refl
neither false b = refl

module _ (t w : List ℕ) where
  -- the figure, or none
  abbrev told : Option ℕ
  told = cond (premises t w) (Some (most_steps (plan_count t))) None

  pub told_figure : (k : ℕ) → k ≡ most_steps (plan_count t) → premises t w ≡ true → Some k ≡ told
  told_figure k is kept = rw (kept, is) refl

  pub told_none : premises t w ≡ false → None ≡ told
  told_none broken = rw broken refl

  refused : (why : Refusal) → bound_check t w ≡ Err why → bound_answer t w ≡ Err why
  unfolding bound_answer
  refused why e = rw (e, bound_answer)

  pub table_refused : (why : Refusal) → table_check t ≡ Err why → bound_answer t w ≡ Err why
  unfolding bound_check
  table_refused why e = refused why (then_stops (table_check t) _ why e)

  module _ (done : table_check t ≡ Done) (n : ℕ) (whole : n ≡ plan_count t) where
    pub length_refused : (length w ≡ 4 * n → ⊥) → bound_answer t w ≡ Err Lengths
    unfolding bound_check
    length_refused other = refused Lengths (then_next (table_check t) _ done ∙ stop _ _ _ (ap not (ne_eqb _ _ (rw whole at other))))

    module _ (long : length w ≡ 4 * n) where
      words_left : bound_check t w ≡ call_words_check t w
      unfolding bound_check
      words_left = then_next (table_check t) _ done ∙ pass _ _ _ (ap not (eq-eqb _ _ (rw whole at long)))

      pub words_refused : (why : Refusal) → call_words_check t w ≡ Err why → bound_answer t w ≡ Err why
      words_refused why e = refused why (words_left ∙ e)

      pub figure_told : call_words_check t w ≡ Done → bound_answer t w ≡ Ok told
      unfolding bound_answer
      figure_told e = rw (words_left ∙ e, bound_answer) (either (premises t w))
        where
          most : ℕ
          most = most_steps (plan_count t)

          either : (b : Bool) → ◌≡◌ {A = Figure} (cond b (Ok (Some most)) (Ok None)) (Ok (cond b (Some most) None))
          either true = refl
          either false = refl

  -- both premises by one search
  pub premises_are : (n : ℕ) → n ≡ plan_count t → premises t w ≡ not (some_below (breaks_premise t w) n)
  unfolding nobody_retries nobody_holds_both
  premises_are n whole =
      let retries : ℕ → Bool = (λ p. retry_aborted (entry t p)) in
      sym
      (ap not (ap (some_below (breaks_premise t w)) whole ∙ some_either retries (both_hold t w) (plan_count t))
      ∙ neither (some_below retries (plan_count t)) (some_below (both_hold t w) (plan_count t)))
