-- The causes that are told once a step is done are the step's; of states that stay as they were all are 0; and a plan's cause is 0 exactly
-- where its state stays. Assumes nothing.
use Prim.Native.Nat.{ℕ, zero, suc, ◌<◌}
use native.Mathlib.Omega.{arith}
use mathlib.Core.Path.{◌≡◌, refl, sym, ap, ◌∙◌}
use mathlib.Core.List.{List}
use lib.ListN.{get_or, length, take, replicate, length-replicate, get_or-replicate}
use lib.Seq.{ext_get_or, take_all}
use Rattle.rules.specs.States.{cause_code, state_at}
use Rattle.rules.specs.Table.{plan_count, parent}
use Rattle.rules.specs.Words.{word, pick_of}
use Rattle.rules.specs.Step.{chosen, new_state, step_first, step_by, step_under, step, causes_to, causes}
use Rattle.rules.specs.Answers.{table_check, Done}
use Rattle.rules.proofs.Below.{length_map_below, at_map_below, same_map_below}
use Rattle.rules.proofs.Tree.{Tree, tree, passes}
use Rattle.demands.proofs.States.{is_it}
use Rattle.demands.proofs.Step.{next, length_step, state_step, take_first}
use Rattle.moves.specs.Causes.{cause_told, causes_told}
use Rattle.moves.proofs.Causes.{told_of_step, told_unmoved, unmoved_stays}
use Rattle.pass.proofs.Turns.{part_state, prefix_state}

-- in the states after a step each plan has the state that it moves to
shows_move :
    (rule : ℕ) (t s w : List ℕ) (choice : ℕ → ℕ) → Tree t → (p : ℕ) → p < plan_count t
    → state_at (step_by rule t s w choice) p ≡ new_state rule t s w choice (step_by rule t s w choice) p
unfolding step_by next
shows_move rule t s w choice tree p l =
    state_step rule t s w choice p l
    ∙ ap (λ (x : List ℕ). new_state rule t s w choice x p) (sym (take_first rule t s w choice (plan_count t) p (omega arith)))
    ∙ prefix_state rule t s w choice (step_first rule t s w choice (plan_count t)) p (λ h. tree.down p h l)

-- of the new states only those of the table's plans are read
part_told :
    (t s w new : List ℕ) → Tree t → (p : ℕ) → p < plan_count t → cause_told t s w (take (plan_count t) new) p ≡ cause_told t s w new p
unfolding cause_told
part_told t s w new tree zero l = rw (part_state (plan_count t) new 0 l) refl
part_told t s w new tree (suc k) l =
    let up : parent t (suc k) < plan_count t = omega (arith, tree.down (suc k) (omega arith) l) in
    rw (part_state (plan_count t) new (suc k) l, part_state (plan_count t) new (parent t (suc k)) up) refl

pub told_after_step :
    (rule : ℕ) (t s w : List ℕ) → Tree t → (new : List ℕ) (n m : ℕ) → n ≡ plan_count t → m ≡ plan_count t → take n new ≡ step rule t s w
    → causes_told t s w new m ≡ causes rule t s w
unfolding causes_told step_under step causes_to causes
told_after_step rule t s w tree new n m whole room is =
    let choice : ℕ → ℕ = chosen t s (λ q. pick_of (word w q)) in
    let moved : take (plan_count t) new ≡ step_by rule t s w choice = rw whole at is in
    rw room
    (same_map_below _ _ (plan_count t)
    (λ p l. ap cause_code
    (sym (part_told t s w new tree p l)
    ∙ ap (λ (x : List ℕ). cause_told t s w x p) moved
    ∙ told_of_step rule t s w choice (step_by rule t s w choice) p (shows_move rule t s w choice tree p l))))

pub told_before_step : (t s w : List ℕ) (n : ℕ) → causes_told t s w s n ≡ replicate n 0
unfolding causes_told
told_before_step t s w n =
    let told : ℕ → ℕ = (λ p. cause_code (cause_told t s w s p)) in
    ext_get_or 0 _ _ (length_map_below told n ∙ sym (length-replicate {A = ℕ} n 0))
    (λ k l. let within : k < n = omega (arith, length_map_below told n) in
    at_map_below told n k within ∙ ap cause_code (told_unmoved t s w s k refl) ∙ sym (get_or-replicate {A = ℕ} n k 0 0 within))

-- as many as are asked for
pub told_of_all : (t s w new : List ℕ) (n : ℕ) → length (causes_told t s w new n) ≡ n
unfolding causes_told
told_of_all t s w new n = length_map_below _ n

-- Document 02 (ix), '0 unmoved': in a step a plan's cause is 0 exactly where its state stays.
module _ (rule : ℕ) (t s w : List ℕ) (done : table_check t ≡ Done) (p : ℕ) (l : p < plan_count t) where
  abbrev new : List ℕ
  new = step rule t s w

  told_here : get_or (causes rule t s w) p 0 ≡ cause_code (cause_told t s w new p)
  unfolding causes_told step_under step
  told_here =
      let n : ℕ = plan_count t in
      let long = length_step rule t s w (chosen t s (λ q. pick_of (word w q))) in
      ap (λ (x : List ℕ). get_or x p 0)
      (sym (told_after_step rule t s w (tree t (passes t done)) new n n refl refl (take_all n new (omega (arith, long)))))
      ∙ at_map_below (λ q. cause_code (cause_told t s w new q)) n p l

  pub unmoved_exactly :
      (get_or (causes rule t s w) p 0 ≡ 0 → state_at new p ≡ state_at s p) × (state_at new p ≡ state_at s p → get_or (causes rule t s w) p 0 ≡ 0)
  unmoved_exactly = (
    λ e. is_it (state_at s p) (state_at new p) (rw (unmoved_stays t s w new p (sym told_here ∙ e)) tt),
    λ e. told_here ∙ ap cause_code (told_unmoved t s w new p e),
  )
