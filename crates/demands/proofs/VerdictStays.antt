-- Document 02 (vii): demand 3 does not move. By every rule, under every table, the same verdicts are permitted on every record as when the
-- lowest Ready child was taken where the pick is not Ready: whatever is taken there, any Ready child can be picked. Assumes nothing.
use Prim.Native.Nat.{ℕ}
use mathlib.Core.Path.{◌≡◌, refl}
use mathlib.Core.Logic.{◌↔◌}
use mathlib.Core.List.{List, [], ◌∷◌}
use Rattle.rules.specs.States.{state_at}
use Rattle.rules.specs.Table.{children_before, children}
use Rattle.rules.specs.Step.{fallback, ready_or, chosen}
use Rattle.rules.specs.Record.{Choosing, words_of, states_of, states_before}
use Rattle.rules.specs.Answers.{record_check, JudgedBy, Judged, Verdict, Done}
use Rattle.rules.proofs.Verdicts.{Explains, still_judged}
use Rattle.demands.specs.Before.{chosen_before, JudgedBefore}
use Rattle.demands.proofs.Choice.{AmongReady, chosen_among, before_among}
use Rattle.demands.proofs.Witness.{shown_decides}
use Rattle.demands.proofs.Accepted.{table_done}

-- any two ways to choose among the Ready children explain the same,
module _ (rule : ℕ) (t r : List ℕ) where
  explains : {one other : Choosing} → AmongReady one → AmongReady other → record_check rule t r ≡ Done → Explains rule r one t other t
  explains a b done i k within e =
      let s = states_before t r i in
      let w = words_of t r i in
      let shown = states_of t r i in
      let passed = table_done rule t r done in
      (shown_decides b rule t s w shown passed k within).1 ((shown_decides a rule t s w shown passed k within).0 e)

  -- and judge alike
  judged_alike :
      {one other : Choosing} → AmongReady one → AmongReady other → (v : Verdict) → JudgedBy one rule t r v → JudgedBy other rule t r v
  judged_alike a b =
      still_judged
      (record {
        checked = refl;
        plans = refl;
        steps = refl;
        words = λ i. refl;
        there = explains a b;
        back = explains b a;
      })

pub verdict_stays : (rule : ℕ) (t r : List ℕ) (v : Verdict) → JudgedBefore rule t r v ↔ Judged rule t r v
verdict_stays rule t r v = (judged_alike rule t r before_among chosen_among v, judged_alike rule t r chosen_among before_among v)

-- Though the two ways part: under an any-order root with three leaves, of which the last is named and Ready, the second Ready and the first
-- picked.
abbrev last_named : List ℕ
last_named =
    65 ∷ 80 ∷ 84 ∷ 1 ∷ 0 ∷ 4 ∷ 0 ∷ 0
    ∷ 255 ∷ 255 ∷ 3 ∷ 0 ∷ 0 ∷ 0 ∷ 0 ∷ 1
    ∷ 0 ∷ 0 ∷ 0 ∷ 0 ∷ 0 ∷ 0 ∷ 0 ∷ 0
    ∷ 0 ∷ 0 ∷ 0 ∷ 0 ∷ 0 ∷ 0 ∷ 0 ∷ 0
    ∷ 0 ∷ 0 ∷ 0 ∷ 4 ∷ 0 ∷ 0 ∷ 0 ∷ 0
    ∷ []

abbrev takes : Choosing → ℕ
takes choosing = choosing last_named (4 ∷ 1 ∷ 3 ∷ 3 ∷ []) (λ q. 0) 0

pub ways_part : (takes chosen_before ≡ 2) × (takes chosen ≡ 3)
unfolding state_at children_before children fallback ready_or chosen chosen_before
ways_part = (refl, refl)
