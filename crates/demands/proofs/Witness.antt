-- Some picks explain the first k states shown exactly if the witness does, and exactly if the choice of what is shown does: whatever is
-- taken where a pick is not Ready. Assumes nothing.
use Prim.Native.Nat.{ℕ, zero, suc, ◌≤◌, ◌<◌}
use native.Mathlib.Omega.{arith}
use mathlib.Core.Bool.{false, not, beq, true≢false}
use mathlib.Core.Path.{◌≡◌, sym, ◌∙◌}
use mathlib.Core.Logic.{◌↔◌}
use mathlib.Core.List.{List}
use lib.ListN.{length, take}
use lib.Dec.{T, eqb}
use Rattle.rules.specs.Lists.{some}
use Rattle.rules.specs.States.{state_at, is}
use Rattle.rules.specs.Table.{plan_count, entry, body_of, children}
use Rattle.rules.specs.Step.{step_by, step_under}
use Rattle.rules.specs.Record.{Choosing, ExplainedBy, Explained}
use Rattle.rules.specs.Answers.{unfit, table_check, Done}
use Rattle.rules.specs.Demands.{SubPlan}
use Rattle.rules.specs.declared.Body.TheVariants.{AnyOrder}
use Rattle.rules.specs.declared.PlanState.TheVariants.{Ready, Activated}
use Rattle.rules.proofs.Tree.{Passes, passes, Tree, tree, or_left}
use Rattle.demands.specs.Witness.{activated_child, witness}
use Rattle.demands.proofs.Lists.{found_some}
use Rattle.demands.proofs.Children.{child_member, member_child}
use Rattle.demands.proofs.States.{is_it}
use Rattle.demands.proofs.Step.{same_state, next, state_step, next_child}
use Rattle.demands.proofs.Orders.{Chooses, shows_chosen}
use Rattle.demands.proofs.Choice.{is_ready, ReadyChild, AmongReady, chosen_among, activated_agrees}
use Rattle.demands.proofs.Choice.{witness_chooses, witness_allowed, witness_narrow}
use Rattle.demands.proofs.SameStep.{same_step}

some_ready : (t s : List ℕ) (q p : ℕ) → SubPlan t q p → state_at s p ≡ Ready → T (some (is_ready s) (children t q))
some_ready t s q p c r = found_some (is_ready s) (child_member t q p c) (rw r tt)

-- Picks choose among the Ready children, in one way or another: the witness then chooses what is shown.
module _ {choosing : Choosing} (among : AmongReady choosing) (rule : ℕ) (t s w shown : List ℕ) (tree : Tree t) (k : ℕ)
    (within : k ≤ plan_count t) where
  pub witness_step :
      take k (step_by rule t s w (choosing t s (witness t s shown))) ≡ take k (step_by rule t s w (activated_child t s shown))
  witness_step =
      same_step rule t s w tree (choosing t s (witness t s shown)) (activated_child t s shown) k within
      (λ q p c h m r. rw (witness_chooses t s shown q among m.body (some_ready t s q p c r)))

-- And picks that explain the first k states, and the choice of what is shown, move these plans alike.
module _ {choosing : Choosing} (among : AmongReady choosing) (rule : ℕ) (t s w shown : List ℕ) (tree : Tree t) (k : ℕ)
    (within : k ≤ plan_count t) (explained : ExplainedBy choosing rule t s w shown k) where
  abbrev choice : ℕ → ℕ
  choice = choosing t s explained.pick

  shows_next : (p : ℕ) → p < k → state_at shown p ≡ next rule t s w choice p
  shows_next p l =
      sym (same_state k (step_by rule t s w choice) shown explained.agrees p l) ∙ state_step rule t s w choice p (omega arith)

  same_choice :
      (q p : ℕ) → SubPlan t q p → p < k → Chooses t s (next rule t s w choice q) q → state_at s p ≡ Ready
      → eqb p (choice q) ≡ eqb p (activated_child t s shown q)
  same_choice q p c l m r =
      activated_agrees t s shown q (choice q) p
      (among.found t s explained.pick q (some_ready t s q p c r)) marked
    where
      marked : (r : ℕ) → ReadyChild t s q r → r ≤ p → is Activated (state_at shown r) ≡ eqb r (choice q)
      marked r f h =
          rw (shows_next r (omega arith), next_child rule t s w choice tree q r (member_child t q r f.member))
          (shows_chosen rule t s w (next rule t s w choice q) q r choice m (is_it Ready (state_at s r) f.passes))

  pub shown_explains : take k (step_by rule t s w (activated_child t s shown)) ≡ take k shown
  shown_explains = sym (same_step rule t s w tree choice (activated_child t s shown) k within same_choice) ∙ explained.agrees

-- by check 8 an any-order plan has children, so that there is a pick for it
pub has_children : (t : List ℕ) → Passes t → (q : ℕ) → q < plan_count t → body_of (entry t q) ≡ AnyOrder → 0 < length (children t q)
unfolding unfit
has_children t passed q l b =
    let fit = or_left _ _ (or_left _ _ (or_left _ _ (or_left _ _ (rw b at (passed.fits q l))))) in
    go (length (children t q)) fit
  where
    go : (n : ℕ) → not (beq false (eqb n 0)) ≡ false → 0 < n
    go zero e = absurd (true≢false e)
    go (suc n) e = omega arith

-- a pick of the witness is a rank, or 0
pub witness_small : (t s shown : List ℕ) → table_check t ≡ Done → (q : ℕ) → q < plan_count t → witness t s shown q < 64
witness_small t s shown done q l = witness_narrow t s shown q (tree t (passes t done)).narrow

-- some picks explain the first k states, in whichever of these ways they choose, exactly if the choice of what is shown does
pub shown_decides :
    {choosing : Choosing} → AmongReady choosing → (rule : ℕ) (t s w shown : List ℕ) → table_check t ≡ Done → (k : ℕ) → k ≤ plan_count t
    → ExplainedBy choosing rule t s w shown k ↔ (take k (step_by rule t s w (activated_child t s shown)) ≡ take k shown)
shown_decides among rule t s w shown done k l =
    let passed = passes t done in
    let down = tree t passed in (
      shown_explains among rule t s w shown down k l,
      (λ e. record {
        pick = witness t s shown;
        allowed = λ q h. witness_allowed t s shown q (has_children t passed q h);
        agrees = witness_step among rule t s w shown down k l ∙ e;
      }),
    )

pub witness_explains :
    (rule : ℕ) (t s w shown : List ℕ) → table_check t ≡ Done → (k : ℕ) → k ≤ plan_count t
    → Explained rule t s w shown k ↔ (take k (step_under rule t s w (witness t s shown)) ≡ take k shown)
unfolding step_under
witness_explains rule t s w shown done k l =
    let same = witness_step chosen_among rule t s w shown (tree t (passes t done)) k l in
    let decides = shown_decides chosen_among rule t s w shown done k l in
    (λ e. same ∙ decides.0 e, λ e. decides.1 (sym same ∙ e))
