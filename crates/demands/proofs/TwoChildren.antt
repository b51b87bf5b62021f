-- Bodies of two children, 5 to 8, all of them at once: which child is the first and which the second, that the second is considered only
-- beside a first that lets it stand, and that of if-then-else not both are. Of this crate's laws these alone open `due`. Assumes nothing.
use Prim.Native.Nat.{ℕ, ◌<◌}
use native.Mathlib.Omega.{arith}
use mathlib.Core.Bool.{Bool, true, false, not, ◌&&◌}
use mathlib.Core.Path.{◌≡◌, refl}
use mathlib.Core.Logic.{◌⊎◌, inl, inr}
use mathlib.Core.List.Memᴰ
use mathlib.Core.List.{List, [], ◌∷◌, Memᴰ}
use lib.Dec.{T}
use lib.ListN.{get_or, length}
use borrow.Author.Tests.{eq-eqb, ne_eqb, not-false, eqb-true}
use Rattle.rules.specs.Lists.{no_plan}
use Rattle.rules.specs.States.{state_at, is}
use Rattle.rules.specs.Table.{plan_count, entry, body_of, of_two, retry_aborted, children, first_child, second_child}
use Rattle.rules.specs.Words.{if_satisfied, if_satisfiable}
use Rattle.rules.specs.Step.{branch_taken, due_of_two, due}
use Rattle.rules.specs.HandedIn.{lets_later}
use Rattle.rules.specs.Answers.{unfit_any, unfit_two, unfit_entry, unfit}
use Rattle.rules.specs.Demands.{SubPlan}
use Rattle.rules.specs.declared.Body.{Body}
use Rattle.rules.specs.declared.Body.TheVariants.{OnAbort, OnSuspend, OnAbortOrSuspend, IfThenElse}
use Rattle.rules.specs.declared.PlanState.{PlanState}
use Rattle.rules.specs.declared.PlanState.TheVariants.{Inactive}
use Rattle.rules.proofs.Bodies.{of_two_lem}
use Rattle.rules.proofs.Tree.{or_left, or_right, Passes}
use Rattle.demands.proofs.Tests.{left, right, is_true}
use Rattle.demands.proofs.Lists.{Sorted}
use Rattle.demands.proofs.States.{is_it, states}
use Rattle.demands.proofs.Children.{child_member, sorted_children}
use Rattle.demands.proofs.PassedStates.{lets}

-- by check 8 there are two
pub two_children : (t : List ℕ) → Passes t → (q : ℕ) → q < plan_count t → T (of_two (body_of (entry t q))) → length (children t q) ≡ 2
unfolding unfit unfit_entry
two_children t passed q l two =
    let n = length (children t q) in
    let e = entry t q in
    let wrong : unfit_two n e ≡ false = or_right (unfit_any q n e) (unfit_two n e) (passed.fits q l) in
    eqb-true n 2 (not-false _ (or_left _ (retry_aborted e) (rw (is_true (of_two (body_of e)) two) at wrong)))

-- of two numbers of an ordered list of two, the lower is the first and the other the second
of_two_in : {c k l : ℕ} → Memᴰ c (k ∷ l ∷ []) → (c ≡ k) ⊎ (c ≡ l)
of_two_in (Memᴰ.head e) = inl e
of_two_in (Memᴰ.tail m) = inr (Memᴰ.eq_of_singleton m)

lower_first :
    (ks : List ℕ) (c d : ℕ) → Sorted ks → length ks ≡ 2 → Memᴰ c ks → Memᴰ d ks → c < d
    → (c ≡ get_or ks 0 no_plan) × (d ≡ get_or ks 1 no_plan)
lower_first [] c d o two at_c at_d less = absurd (omega arith)
lower_first (k ∷ []) c d o two at_c at_d less = absurd (omega arith)
lower_first (k ∷ l ∷ []) c d o two at_c at_d less = go (of_two_in at_c) (of_two_in at_d)
  where
    rising : k < l
    rising = o.0 l (Memᴰ.head refl)

    go : (c ≡ k) ⊎ (c ≡ l) → (d ≡ k) ⊎ (d ≡ l) → (c ≡ k) × (d ≡ l)
    go (inl e) (inr f) = (e, f)
    go (inl e) (inl f) = absurd (omega (arith, e, f))
    go (inr e) (inl f) = absurd (omega (arith, e, f, rising))
    go (inr e) (inr f) = absurd (omega (arith, e, f))
lower_first (k ∷ l ∷ m ∷ ks) c d o two at_c at_d less = absurd (omega arith)

-- By the states of the first and the second, whatever the word: a second that is considered stands beside a first that lets it.
second_let :
    (body : Body) (again : Bool) (x : ℕ) (first second : PlanState) → T (of_two body) → T (due_of_two body x false first second)
    → T (lets_later body again first)
second_let body again x first second two =
    of_two_lem (λ b. T (due_of_two b x false first second) → T (lets_later b again first))
    (states (λ f. due_of_two OnAbort x false f second) (lets_later OnAbort again) tt first)
    (states (λ f. due_of_two OnSuspend x false f second) (lets_later OnSuspend again) tt first)
    (states (λ f. due_of_two OnAbortOrSuspend x false f second) (lets_later OnAbortOrSuspend again) tt first)
    (λ h.
    left (is Inactive first) (is Inactive second)
    (left (is Inactive first && is Inactive second) (not (if_satisfiable x)) h))
    body two

-- Of two children c and d of q, whose word is x.
module _
    (t s : List ℕ) (x q c d : ℕ) (two : length (children t q) ≡ 2) (at_c : SubPlan t q c) (at_d : SubPlan t q d) (less : c < d) where
  abbrev placed : (c ≡ first_child t q) × (d ≡ second_child t q)
  placed =
      lower_first (children t q) c d (sorted_children t q) two (child_member t q c at_c) (child_member t q d at_d) less

  -- whether each is considered
  c_due : due t s x q c ≡ due_of_two (body_of (entry t q)) x true (state_at s c) (state_at s d)
  unfolding due
  c_due = rw (eq-eqb c (first_child t q) placed.0, ← placed.0, ← placed.1) refl

  d_due : due t s x q d ≡ due_of_two (body_of (entry t q)) x false (state_at s c) (state_at s d)
  unfolding due
  d_due = rw (ne_eqb d (first_child t q) (λ e. omega (arith, e, placed.0)), ← placed.0, ← placed.1) refl

  pub second_beside : T (of_two (body_of (entry t q))) → T (due t s x q d) → T (lets t q (state_at s c))
  second_beside of h =
      second_let (body_of (entry t q)) (retry_aborted (entry t q)) x (state_at s c) (state_at s d) of (rw d_due at h)

  -- if-then-else that considers the first: the second is Inactive, and is considered too only where the condition is satisfied and not
  -- satisfiable
  pub one_branch :
      body_of (entry t q) ≡ IfThenElse → T (due t s x q c)
      → (state_at s d ≡ Inactive) × (T (due t s x q d) → T (if_satisfied x) × T (not (if_satisfiable x)))
  one_branch b h =
      let idle : Bool = is Inactive (state_at s c) && is Inactive (state_at s d) in
      let first : T (branch_taken x true (state_at s c) (state_at s d)) = rw (c_due, b) at h in (
        is_it Inactive (state_at s d) (right (is Inactive (state_at s c)) (is Inactive (state_at s d)) (left idle (if_satisfied x) first)),
        λ k. (right idle (if_satisfied x) first, right idle (not (if_satisfiable x)) (rw (d_due, b) at k)),
      )
