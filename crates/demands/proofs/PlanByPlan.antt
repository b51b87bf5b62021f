-- Some picks explain the states shown up to a plan exactly as far as the step under the witness shows the same bytes; and a step reads
-- no picks but those of the table's plans. Assumes nothing.
use Prim.Native.Nat.{ℕ, suc, ◌≤◌, ◌<◌}
use native.Mathlib.Omega.{arith}
use mathlib.Core.Path.{◌≡◌, sym, ◌∙◌, ap}
use mathlib.Core.List.{List}
use lib.ListN.{length, take}
use lib.Seq.{take-take, take_all, length-take-le, get_or-take, ext_get_or}
use Rattle.rules.specs.Bytes.{byte_at}
use Rattle.rules.specs.Table.{plan_count}
use Rattle.rules.specs.Step.{chosen, step_by, step_under}
use Rattle.rules.specs.Record.{Explained}
use Rattle.rules.specs.Answers.{table_check, Done}
use Rattle.rules.proofs.Tree.{Tree}
use Rattle.demands.specs.Witness.{witness}
use Rattle.demands.proofs.Children.{after_parent}
use Rattle.demands.proofs.Choice.{same_chosen}
use Rattle.demands.proofs.SameStep.{same_step}
use Rattle.demands.proofs.Step.{same_byte, length_step}
use Rattle.demands.proofs.Witness.{witness_explains}

-- picks that explain some plans explain the first of them
pub explained_fewer : (rule : ℕ) (t s w shown : List ℕ) (j k : ℕ) → j ≤ k → Explained rule t s w shown k → Explained rule t s w shown j
explained_fewer rule t s w shown j k l e =
    record {
      pick = e.pick;
      allowed = e.allowed;
      agrees = sym (take-take j k (step_by rule t s w (chosen t s e.pick)) l) ∙ ap (take j) e.agrees ∙ take-take j k shown l;
    }

-- as many states as plans
pub length_under : (rule : ℕ) (t s w : List ℕ) (pick : ℕ → ℕ) → length (step_under rule t s w pick) ≡ plan_count t
unfolding step_under
length_under rule t s w pick = length_step rule t s w (chosen t s pick)

-- picks that agree on every plan of the table give the same step
pub same_picks :
    (rule : ℕ) (t s w : List ℕ) → Tree t → (pick other : ℕ → ℕ) → ((q : ℕ) → q < plan_count t → pick q ≡ other q)
    → step_under rule t s w pick ≡ step_under rule t s w other
unfolding step_under
same_picks rule t s w shape pick other agree =
    let n : ℕ = plan_count t in
    let choice : ℕ → ℕ = chosen t s pick in
    let choice' : ℕ → ℕ = chosen t s other in
    let alike =
    same_step rule t s w shape choice choice' n (omega arith)
    (λ q p c l m r.
    let above = after_parent t shape q p c in
    rw (same_chosen t s pick q other (agree q (omega (arith, above, c.within)))))
    in
    sym (take_all n (step_by rule t s w choice) (omega (arith, length_step rule t s w choice)))
    ∙ alike
    ∙ take_all n (step_by rule t s w choice') (omega (arith, length_step rule t s w choice'))

module _ (rule : ℕ) (t s w shown : List ℕ) (done : table_check t ≡ Done) (p : ℕ) where
  abbrev witnessed : List ℕ
  witnessed = step_under rule t s w (witness t s shown)

  -- where the step under the witness shows the same bytes, it explains them
  pub explained_so_far :
      p ≤ plan_count t → p ≤ length shown → ((k : ℕ) → k < p → byte_at witnessed k ≡ byte_at shown k) → Explained rule t s w shown p
  explained_so_far within long same =
      let first_long = length-take-le p witnessed (omega (arith, length_under rule t s w (witness t s shown))) in
      (witness_explains rule t s w shown done p within).1
      (ext_get_or 0 (take p witnessed) (take p shown) (first_long ∙ sym (length-take-le p shown long))
      (λ k l.
      let inside : k < p = omega (arith, first_long) in
      get_or-take p witnessed k 0 inside ∙ same k inside ∙ sym (get_or-take p shown k 0 inside)))

  -- and where a byte differs, no picks explain it
  pub unexplained : p < plan_count t → (byte_at witnessed p ≡ byte_at shown p → ⊥) → Explained rule t s w shown (suc p) → ⊥
  unexplained within differs e =
      let agrees = (witness_explains rule t s w shown done (suc p) within).0 e in
      differs (same_byte (suc p) witnessed shown agrees p (omega arith))
