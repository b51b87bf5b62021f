-- Laws of the any-order choice: picks choose among the Ready children, and the witness chooses the child that is shown. This file
-- alone opens `chosen`, `chosen_before` and `witness`. Assumes nothing.
use Prim.Native.Nat.{ℕ, zero, suc, ◌<◌, ◌≤◌}
use native.Mathlib.Omega.{arith}
use native.Mathlib.Decide.{ℕ_discrete}
use mathlib.Core.Bool.{Bool, true, false, cond, not, ◌&&◌}
use mathlib.Core.Path.{◌≡◌, refl, sym, ◌∙◌}
use mathlib.Core.Logic.{◌⊎◌, inl, inr}
use mathlib.Core.List.{List, [], ◌∷◌, Memᴰ}
use lib.ListN.{get_or, length}
use lib.Dec.{T, T_not, eqb, eqb→eq, eqb_refl, leb, leb→le, nleb→lt, ltb, lt→ltb}
use borrow.Author.Tests.{ne_eqb}
use Rattle.rules.specs.Lists.{some, first}
use Rattle.rules.specs.States.{state_at, is}
use Rattle.rules.specs.Table.{plan_count, entry, body_of, is_body, named, children, rank}
use Rattle.rules.specs.Words.{pick_allowed}
use Rattle.rules.specs.Step.{fallback, ready_or, chosen}
use Rattle.rules.specs.Record.{Choosing}
use Rattle.rules.specs.declared.Body.TheVariants.{AnyOrder}
use Rattle.rules.specs.declared.PlanState.TheVariants.{Ready, Activated}
use Rattle.rules.proofs.Bodies.{body_is}
use Rattle.demands.specs.Before.{chosen_before}
use Rattle.demands.specs.Witness.{last, first_marked, activated_child, witness}
use Rattle.demands.proofs.Tests.{both, left, right, decide, is_true, cond_by}
use Rattle.demands.proofs.Lists.{Found, found_some, first_found, last_found, Sorted, first_le, last_ge}
use Rattle.demands.proofs.Children.{member_child, sorted_children, rank_small, at_rank}

-- what stands at a place of a list, or the default
at_place : (ks : List ℕ) (i d : ℕ) → Memᴰ (get_or ks i d) ks ⊎ (get_or ks i d ≡ d)
at_place [] i d = inr refl
at_place (k ∷ ks) zero d = inl (Memᴰ.head refl)
at_place (k ∷ ks) (suc i) d = go (at_place ks i d)
  where
    go : Memᴰ (get_or ks i d) ks ⊎ (get_or ks i d ≡ d) → Memᴰ (get_or ks i d) (k ∷ ks) ⊎ (get_or ks i d ≡ d)
    go (inl m) = inl (Memᴰ.tail m)
    go (inr e) = inr e

-- Of the candidates, the first that is marked, else the last.
module _ (candidate marked : ℕ → Bool) (ks : List ℕ) where
  abbrev taken : ℕ → Bool
  taken c = candidate c && marked c

  abbrev target : ℕ
  target = first_marked candidate marked ks

  candidate_found : {c : ℕ} → Found taken ks c → Found candidate ks c
  candidate_found {c} r = record { member = r.member; passes = left (candidate c) (marked c) r.passes }

  target_found : T (some candidate ks) → Found candidate ks target
  target_found h =
      cond_by (Found candidate ks) (some taken ks) (λ m. candidate_found (first_found taken ks m))
      (λ m. last_found candidate ks h)

  -- Where, among the candidates up to p, exactly c is marked, p is the target exactly if it is c.
  module _ (sorted : Sorted ks) (c p : ℕ) (at_c : Found candidate ks c)
      (only_c : (r : ℕ) → Found candidate ks r → r ≤ p → marked r ≡ eqb r c) where
    taken_is_c : (r : ℕ) → Found taken ks r → r ≤ p → r ≡ c
    taken_is_c r f l = eqb→eq r c (rw (only_c r (candidate_found f) l) at (right (candidate r) (marked r) f.passes))

    c_taken : c ≤ p → T (taken c)
    c_taken l = both (candidate c) (marked c) at_c.passes (rw (only_c c at_c l) (eqb_refl c))

    -- some candidate is marked: c is the first if it is up to p, and if the first is p it is c
    first_up_to : T (some taken ks) → eqb p c ≡ eqb p (first taken ks)
    first_up_to m = go (ℕ_discrete p c)
      where
        go : Dec (p ≡ c) → eqb p c ≡ eqb p (first taken ks)
        go (yes e) =
            let low = first_le taken c ks sorted at_c.member (c_taken (omega arith)) in
            rw (taken_is_c (first taken ks) (first_found taken ks m) (omega arith))
        go (no n) =
            let not_first : p ≡ first taken ks → ⊥ =
            (λ e. n (taken_is_c p (rw (← e) at (first_found taken ks m)) (omega arith))) in
            ne_eqb p c n ∙ sym (ne_eqb p (first taken ks) not_first)

    -- none is: c is higher than p, and so is the last candidate
    none_up_to : T (not (some taken ks)) → p < c
    none_up_to m = go (decide (leb c p))
      where
        go : T (leb c p) ⊎ T (not (leb c p)) → p < c
        go (inl x) = absurd (T_not (some taken ks) m (found_some taken at_c.member (c_taken (leb→le c p x))))
        go (inr x) = nleb→lt c p x

    target_agrees : eqb p c ≡ eqb p target
    target_agrees = cond_by (λ x. eqb p c ≡ eqb p x) (some taken ks) first_up_to last_beyond
      where
        last_beyond : T (not (some taken ks)) → eqb p c ≡ eqb p (last candidate ks)
        last_beyond m =
            let h = none_up_to m in
            let l = last_ge candidate c ks sorted at_c.member at_c.passes in
            ne_eqb p c (λ e. omega arith) ∙ sym (ne_eqb p (last candidate ks) (λ e. omega arith))

abbrev pub is_ready : List ℕ → ℕ → Bool
is_ready s c = is Ready (state_at s c)

abbrev pub ReadyChild : List ℕ → List ℕ → ℕ → ℕ → Type 0
ReadyChild t s q c = Found (is_ready s) (children t q) c

-- What is taken where the pick is not Ready is a Ready child where there is one.
module _ (t s : List ℕ) (q : ℕ) where
  abbrev some_ready : Bool
  some_ready = some (is_ready s) (children t q)

  lowest_found : T some_ready → ReadyChild t s q (first (is_ready s) (children t q))
  lowest_found h = first_found (is_ready s) (children t q) h

  fallback_found : T some_ready → ReadyChild t s q (fallback t s q)
  unfolding fallback
  fallback_found h =
      let is_named : ℕ → Bool = (λ c. named (entry t c)) in
      cond_by (ReadyChild t s q) (some (λ c. is_ready s c && is_named c) (children t q))
      (λ m. candidate_found (is_ready s) is_named (children t q) (first_found (λ c. is_ready s c && is_named c) (children t q) m))
      (λ m. lowest_found h)

  -- then so is what a rank gives, and it gives each
  module _ (other k : ℕ) where
    ready_or_found : (T some_ready → ReadyChild t s q other) → T some_ready → ReadyChild t s q (ready_or t s other k q)
    unfolding ready_or
    ready_or_found falls h = go (get_or (children t q) k other) (at_place (children t q) k other)
      where
        go : (c : ℕ) → Memᴰ c (children t q) ⊎ (c ≡ other) → ReadyChild t s q (cond (is_ready s c) c other)
        go c (inl m) = cond_by (ReadyChild t s q) (is_ready s c) (λ r. record { member = m; passes = r }) (λ r. falls h)
        go c (inr e) = cond_by (ReadyChild t s q) (is_ready s c) (λ r. rw e (falls h)) (λ r. falls h)

    ready_or_rank : (c : ℕ) → ReadyChild t s q c → k ≡ rank t c → ready_or t s other k q ≡ c
    unfolding ready_or
    ready_or_rank c f e = rw (e, at_rank t q c other (member_child t q c f.member), is_true (is_ready s c) f.passes)

-- The two laws of a way to choose: picks choose a Ready child where there is one, and the rank of each chooses it.
pub record AmongReady (choosing : Choosing) : Type 0 where
  pub found :
      (t s : List ℕ) (pick : ℕ → ℕ) (q : ℕ) → T (some_ready t s q) → ReadyChild t s q (choosing t s pick q)
  pub ranked : (t s : List ℕ) (pick : ℕ → ℕ) (q c : ℕ) → ReadyChild t s q c → pick q ≡ rank t c → choosing t s pick q ≡ c

-- They hold whatever is taken where the pick is not Ready, if it is a Ready child where there is one: so of the way that stands, and of the
-- one before document 02 (vii).
ready_or_among :
    (other : List ℕ → List ℕ → ℕ → ℕ) → ((t s : List ℕ) (q : ℕ) → T (some_ready t s q) → ReadyChild t s q (other t s q))
    → AmongReady (λ t s pick q. ready_or t s (other t s q) (pick q) q)
ready_or_among other falls =
    record {
      found = λ t s pick q. ready_or_found t s q (other t s q) (pick q) (falls t s q);
      ranked = λ t s pick q. ready_or_rank t s q (other t s q) (pick q);
    }

pub chosen_among : AmongReady chosen
unfolding chosen
chosen_among = ready_or_among fallback fallback_found

pub before_among : AmongReady chosen_before
unfolding chosen_before
before_among = ready_or_among (λ t s q. first (is_ready s) (children t q)) lowest_found

-- only the plan's own pick is read
pub same_chosen : (t s : List ℕ) (pick : ℕ → ℕ) (q : ℕ) (other : ℕ → ℕ) → pick q ≡ other q → chosen t s pick q ≡ chosen t s other q
unfolding chosen
same_chosen t s pick q other e = rw e refl

-- The witness.
module _ (t s shown : List ℕ) (q : ℕ) where
  pub activated_found : T (some_ready t s q) → ReadyChild t s q (activated_child t s shown q)
  unfolding activated_child
  activated_found = target_found (is_ready s) (λ c. is Activated (state_at shown c)) (children t q)

  -- where among the Ready children up to p exactly c is shown Activated, p is the activated child exactly if it is c
  pub activated_agrees :
      (c p : ℕ) → ReadyChild t s q c
      → ((r : ℕ) → ReadyChild t s q r → r ≤ p → is Activated (state_at shown r) ≡ eqb r c)
      → eqb p c ≡ eqb p (activated_child t s shown q)
  unfolding activated_child
  activated_agrees =
      target_agrees (is_ready s) (λ r. is Activated (state_at shown r)) (children t q) (sorted_children t q)

  -- it chooses the child that is shown
  pub witness_chooses :
      {choosing : Choosing} → AmongReady choosing → body_of (entry t q) ≡ AnyOrder → T (some_ready t s q)
      → choosing t s (witness t s shown) q ≡ activated_child t s shown q
  unfolding witness
  witness_chooses among b r =
      among.ranked t s (witness t s shown) q (activated_child t s shown q) (activated_found r) (rw (b, is_true (some_ready t s q) r))

  -- it is below 64, as the plans' ranks are
  pub witness_narrow : ((c : ℕ) → c < plan_count t → rank t c < 64) → witness t s shown q < 64
  unfolding witness
  witness_narrow narrow = go (is_body AnyOrder (body_of (entry t q)))
    where
      go : (b : Bool) → cond (b && some_ready t s q) (rank t (activated_child t s shown q)) 0 < 64
      go false = omega arith
      go true =
          cond_by (λ x. x < 64) (some_ready t s q)
          (λ r. narrow _ (member_child t q _ (activated_found r).member).within) (λ r. omega arith)

  -- it is a pick that words may hold
  pub witness_allowed :
      (body_of (entry t q) ≡ AnyOrder → 0 < length (children t q))
      → T (pick_allowed (body_of (entry t q)) (length (children t q)) (witness t s shown q))
  unfolding witness
  witness_allowed h = go (is_body AnyOrder (body_of (entry t q))) (λ b. h (body_is AnyOrder (body_of (entry t q)) b))
    where
      pick : Bool → ℕ
      pick b = cond (b && some_ready t s q) (rank t (activated_child t s shown q)) 0

      go : (b : Bool) → (T b → 0 < length (children t q)) → T (cond b (ltb (pick b) (length (children t q))) (eqb (pick b) 0))
      go true k =
          lt→ltb (pick true) (length (children t q))
          (cond_by (λ x. x < length (children t q)) (some_ready t s q)
          (λ r. rank_small t q _ (member_child t q _ (activated_found r).member)) (λ r. k tt))
      go false k = tt
