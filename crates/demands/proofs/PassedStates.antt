-- Check 11 says of the states exactly three things: each child suits its parent, an any-order plan has at most one child in
-- execution, and behind a child that keeps the later ones Inactive, by the plan's body, all are. Assumes nothing.
use Prim.Native.Nat.{ℕ, zero, suc, ◌<◌}
use native.Mathlib.Omega.{arith}
use mathlib.Core.Bool.{Bool, false, not, ◌&&◌}
use mathlib.Core.Path.{◌≡◌}
use mathlib.Core.Logic.{◌⊎◌, inl, inr, ⊎_elim}
use mathlib.Core.List.{List}
use lib.ListN.{length}
use lib.Dec.{T, not_T, ltb, ltb→lt, lt→ltb}
use Rattle.rules.specs.Lists.{first}
use Rattle.rules.specs.Bytes.{byte_at}
use Rattle.rules.specs.States.{is_code, state_at, is, in_execution}
use Rattle.rules.specs.Table.{plan_count, parent, entry, body_of, is_body, retry_aborted, children}
use Rattle.rules.specs.HandedIn.{suits, lets_later, some_before, runs_beside, too_early, breaks_body, breaks_under, bad_state}
use Rattle.rules.specs.Demands.{SubPlan}
use Rattle.rules.specs.declared.Body.TheVariants.{AnyOrder}
use Rattle.rules.specs.declared.PlanState.{PlanState}
use Rattle.rules.specs.declared.PlanState.TheVariants.{Inactive}
use borrow.Author.Tests.{not-false}
use Rattle.rules.proofs.Tree.{or_left, or_right}
use Rattle.demands.specs.PassesStates.{PassesStates}
use Rattle.demands.proofs.Numbers.{not_lower}
use Rattle.rules.proofs.Bodies.{body_is}
use Rattle.demands.proofs.Tests.{both, left, right, in_left, in_right, either, decide, is_true, is_false}
use Rattle.demands.proofs.Lists.{found_some, first_found}
use Rattle.demands.proofs.Children.{parent_is, sub_plan, child_member, member_child}
use Rattle.demands.proofs.States.{is_it}

-- plan q lets a later child be other than Inactive behind one in this state; and keeps the later ones Inactive
abbrev pub lets : List ℕ → ℕ → PlanState → Bool
lets t q state = lets_later (body_of (entry t q)) (retry_aborted (entry t q)) state

abbrev pub keeps : List ℕ → ℕ → PlanState → Bool
keeps t q state = not (lets t q state)

pub record Valid (t : List ℕ) (st : ℕ → PlanState) : Type 0 where
  pub each : (q c : ℕ) → SubPlan t q c → T (suits (st q) (st c))
  pub one :
      (q c d : ℕ) → body_of (entry t q) ≡ AnyOrder → SubPlan t q c → SubPlan t q d
      → T (in_execution (st c)) → T (in_execution (st d)) → c ≡ d
  pub later : (q c d : ℕ) → SubPlan t q c → SubPlan t q d → c < d → T (keeps t q (st c)) → st d ≡ Inactive

-- a lower child that passes a test
module _ (t s : List ℕ) (q p : ℕ) (f : PlanState → Bool) where
  abbrev lower_passes : ℕ → Bool
  lower_passes c = ltb c p && f (state_at s c)

  lower_some : (c : ℕ) → SubPlan t q c → c < p → T (f (state_at s c)) → T (some_before t s q p f)
  lower_some c d l h =
      found_some lower_passes (child_member t q c d) (both (ltb c p) (f (state_at s c)) (lt→ltb c p l) h)

  some_lower : T (some_before t s q p f) → (c : ℕ) × SubPlan t q c × (c < p) × T (f (state_at s c))
  some_lower h =
      let c = first lower_passes (children t q) in
      let r = first_found lower_passes (children t q) h in (
        c,
        member_child t q c r.member,
        ltb→lt c p (left (ltb c p) (f (state_at s c)) r.passes),
        right (ltb c p) (f (state_at s c)) r.passes,
      )

-- what passes check 11 is valid
module _ (t s : List ℕ) (unbroken : (p : ℕ) → p < plan_count t → bad_state t s p ≡ false) where
  no_break : (q p : ℕ) → SubPlan t q p → breaks_under t s q p ≡ false
  unfolding bad_state
  no_break q zero c = absurd c.child
  no_break q (suc k) c =
      rw (← (parent_is t q (suc k) c.child)) (or_right (not (is_code (byte_at s (suc k)))) _ (unbroken (suc k) c.within))

  child_suits : (q p : ℕ) → SubPlan t q p → T (suits (state_at s q) (state_at s p))
  child_suits q p c =
      let fits : Bool = suits (state_at s q) (state_at s p) in
      rw (not-false fits (or_left (not fits) _ (no_break q p c))) tt

  -- no child breaks the rule of its parent's body
  no_body_break : (q p : ℕ) → SubPlan t q p → T (breaks_body t s (body_of (entry t q)) q p) → ⊥
  no_body_break q p c x =
      let e = or_right (not (suits (state_at s q) (state_at s p))) (breaks_body t s (body_of (entry t q)) q p) (no_break q p c) in
      rw e at x

  one_lower :
      (q c d : ℕ) → body_of (entry t q) ≡ AnyOrder → SubPlan t q c → SubPlan t q d → T (in_execution (state_at s c))
      → T (in_execution (state_at s d)) → c < d → ⊥
  one_lower q c d b at_c at_d x y l =
      no_body_break q d at_d
      (in_left (is_body AnyOrder (body_of (entry t q)) && runs_beside t s q d) (too_early t s (body_of (entry t q)) q d)
      (rw b (both (in_execution (state_at s d)) (some_before t s q d in_execution) y (lower_some t s q d in_execution c at_c l x))))

  all_later :
      (q c d : ℕ) → SubPlan t q c → SubPlan t q d → c < d → T (keeps t q (state_at s c)) → state_at s d ≡ Inactive
  all_later q c d at_c at_d l x = go (decide (is Inactive (state_at s d)))
    where
      go : T (is Inactive (state_at s d)) ⊎ T (not (is Inactive (state_at s d))) → state_at s d ≡ Inactive
      go (inl y) = is_it Inactive (state_at s d) y
      go (inr y) =
          absurd (no_body_break q d at_d
          (in_right (is_body AnyOrder (body_of (entry t q)) && runs_beside t s q d) (too_early t s (body_of (entry t q)) q d)
          (both (not (is Inactive (state_at s d))) (some_before t s q d (keeps t q)) y (lower_some t s q d (keeps t q) c at_c l x))))

  unbroken_valid : Valid t (state_at s)
  unbroken_valid =
      record {
        each = child_suits;
        one = λ q c d b at_c at_d x y. not_lower c d (one_lower q c d b at_c at_d x y) (one_lower q d c b at_d at_c y x);
        later = all_later;
      }

pub passes_valid : (t s : List ℕ) → PassesStates t s → Valid t (state_at s)
passes_valid t s p = unbroken_valid t s p.unbroken

-- and what is valid passes, if its bytes are codes
module _ (t s : List ℕ) (v : Valid t (state_at s)) where
  body_kept : (q p : ℕ) → SubPlan t q p → T (breaks_body t s (body_of (entry t q)) q p) → ⊥
  body_kept q p c h =
      let body = body_of (entry t q) in
      ⊎_elim second early (either (is_body AnyOrder body && runs_beside t s q p) (too_early t s body q p) h)
    where
      second : T (is_body AnyOrder (body_of (entry t q)) && runs_beside t s q p) → ⊥
      second x =
          let b = body_is AnyOrder (body_of (entry t q)) (left (is_body AnyOrder (body_of (entry t q))) (runs_beside t s q p) x) in
          let executing : Bool = in_execution (state_at s p) in
          let before : Bool = some_before t s q p in_execution in
          let runs = right (is_body AnyOrder (body_of (entry t q))) (executing && before) x in
          let r = some_lower t s q p in_execution (right executing before runs) in
          omega (arith, r.2, v.one q r.0 p b r.1 c r.3 (left executing before runs))

      early : T (too_early t s (body_of (entry t q)) q p) → ⊥
      early x =
          let moving : Bool = not (is Inactive (state_at s p)) in
          let before : Bool = some_before t s q p (keeps t q) in
          let r = some_lower t s q p (keeps t q) (right moving before x) in
          rw (v.later q r.0 p r.1 c r.2 r.3) at (left moving before x)

  not_bad : ((p : ℕ) → p < plan_count t → T (is_code (byte_at s p))) → (p : ℕ) → p < plan_count t → bad_state t s p ≡ false
  unfolding bad_state
  not_bad codes zero l = rw (is_true (is_code (byte_at s 0)) (codes 0 l))
  not_bad codes (suc k) l =
      rw (
        is_true (is_code (byte_at s (suc k))) (codes (suc k) l),
        is_true (suits (state_at s q) (state_at s (suc k))) (v.each q (suc k) c),
      )
      (is_false _ (not_T (breaks_body t s (body_of (entry t q)) q (suc k)) (body_kept q (suc k) c)))
    where
      q : ℕ
      q = parent t (suc k)

      c : SubPlan t q (suc k)
      c = sub_plan t k l

  pub valid_passes : length s ≡ plan_count t → ((p : ℕ) → p < plan_count t → T (is_code (byte_at s p))) → PassesStates t s
  valid_passes long codes = record { long = long; unbroken = not_bad codes }
