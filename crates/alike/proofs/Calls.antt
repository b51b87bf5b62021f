-- Tables that are alike, one of them a tree, refuse the same states and words, and come to rest after as many steps. Assumes nothing.
use Prim.Native.Nat.{ℕ, zero, suc, ◌+◌, ◌≤◌, ◌<◌}
use native.Mathlib.Omega.{arith}
use mathlib.Core.Bool.{Bool, true, false}
use mathlib.Core.Path.{◌≡◌, refl, ◌∙◌, ap}
use mathlib.Core.List.{List}
use Rattle.rules.specs.Lists.{least_from, least}
use Rattle.rules.specs.Table.{plan_count, parent}
use Rattle.rules.specs.HandedIn.{bad_state}
use Rattle.rules.specs.Rest.{after, settled, least_rest, steps_taken, last_causes}
use Rattle.rules.specs.Answers.{bad_word, bad_record_word, lent_check}
use Rattle.rules.proofs.Tree.{Tree}
use Rattle.alike.proofs.Alike.{Alike, same_parent, same_children}
use Rattle.alike.proofs.Steps.{same_body, same_again, parent_within, same_by_words, same_causes}
use Rattle.std.specs.Prelude.{Option, Some}

-- tests that agree have the same least number that passes
module _ (f g : ℕ → Bool) where
  same_from : (p k : ℕ) → ((j : ℕ) → p ≤ j → j < p + k → f j ≡ g j) → least_from f p k ≡ least_from g p k
  unfolding least_from
  same_from p zero agree = refl
  same_from p (suc k) agree =
      ap (λ (b : Bool). elim b as (λ _. Option ℕ) [ true ↦ Some p | false ↦ least_from f (p + 1) k ]) (agree p (omega arith) (omega arith))
      ∙ ap (λ (z : Option ℕ). elim (g p) as (λ _. Option ℕ) [ true ↦ Some p | false ↦ z ])
      (same_from (p + 1) k (λ j l m. agree j (omega arith) (omega arith)))

  pub same_least : (n : ℕ) → ((p : ℕ) → p < n → f p ≡ g p) → least f n ≡ least g n
  same_least n agree = same_from 0 n (λ p l m. agree p (omega arith))

module _ {t u : List ℕ} (a : Alike t u) where
  -- a word that check 12 refuses, of a call and of a record
  pub same_bad_word : (w : List ℕ) (p : ℕ) → p < plan_count t → bad_word u w p ≡ bad_word t w p
  unfolding bad_word
  same_bad_word w p l = rw (same_children a p, same_body a p l)

  pub same_bad_record_word : (w : List ℕ) (p : ℕ) → p < plan_count t → bad_record_word u w p ≡ bad_record_word t w p
  unfolding bad_record_word
  same_bad_record_word w p l = rw (same_body a p l)

  module _ (tree : Tree t) where
    -- a state that check 11 refuses
    pub same_bad_state : (s : List ℕ) (p : ℕ) → p < plan_count t → bad_state u s p ≡ bad_state t s p
    unfolding bad_state
    same_bad_state s zero l = refl
    same_bad_state s (suc k) l =
        let q : ℕ = parent t (suc k) in
        let within = parent_within tree k l in
        rw (same_parent a (suc k) l, same_children a q, same_body a q within, same_again a q within)

    pub same_lent : (s w c : List ℕ) → lent_check u s w c ≡ lent_check t s w c
    unfolding lent_check
    same_lent s w c =
        rw (
          a.plans,
          same_least (bad_state u s) (bad_state t s) (plan_count t) (same_bad_state s),
          same_least (bad_word u w) (bad_word t w) (plan_count t) (same_bad_word w),
        )

    -- running by a rule under held words
    module _ (rule : ℕ) (s w : List ℕ) where
      pub same_after : (k : ℕ) → after rule u s w k ≡ after rule t s w k
      unfolding after
      same_after zero = refl
      same_after (suc k) = rw (same_after k) (same_by_words a tree rule (after rule t s w k) w)

      pub same_rest : (budget : ℕ) → least_rest rule u s w budget ≡ least_rest rule t s w budget
      unfolding least_rest
      same_rest budget = same_least (settled rule u s w) (settled rule t s w) (suc budget) (λ k l. settles k)
        where
          settles : (k : ℕ) → settled rule u s w k ≡ settled rule t s w k
          settles k = rw (same_after k, same_by_words a tree rule (after rule t s w k) w)

      pub same_rest_states :
          (budget : ℕ) → after rule u s w (steps_taken rule u s w budget) ≡ after rule t s w (steps_taken rule t s w budget)
      same_rest_states budget = rw (steps_taken, same_rest budget) (same_after (steps_taken rule t s w budget))

      same_last : (k : ℕ) → last_causes rule u s w k ≡ last_causes rule t s w k
      unfolding last_causes
      same_last zero = rw a.plans refl
      same_last (suc k) = rw (same_after k) (same_causes a tree rule (after rule t s w k) w)

      pub same_rest_causes :
          (budget : ℕ) → last_causes rule u s w (steps_taken rule u s w budget) ≡ last_causes rule t s w (steps_taken rule t s w budget)
      same_rest_causes budget = rw (steps_taken, same_rest budget) (same_last (steps_taken rule t s w budget))
