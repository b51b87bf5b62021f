-- The picks that explain the states shown if any do, found in one pass up through the plans. Assumes nothing.
use Prim.Native.Nat.{ℕ, suc, ◌+◌, ◌≤◌, ◌<◌}
use native.Mathlib.Decide.{ℕ_discrete}
use native.Mathlib.Numerals.{add-one}
use native.Mathlib.Omega.{arith}
use mathlib.Core.Path.{◌≡◌, refl, sym, ap, ◌∙◌}
use mathlib.Core.Bool.{Bool, true, false, cond, not, ◌&&◌, ◌||◌, and-false, or-false, or-true, false≢true, true≢false}
use mathlib.Core.List.{List, [], ◌∷◌, ◌++◌}
use lib.Dec.{eqb}
use lib.ListN.{length, set, length-set}
use lib.Seq.{get_or-set_same, get_or-set_other}
use borrow.Author.Tests.{eq-eqb, ne_eqb}
use Rattle.rules.specs.Lists.{some, first, no_plan}
use Rattle.rules.specs.Bytes.{byte_at}
use Rattle.rules.specs.States.{code, state_at, is}
use Rattle.rules.specs.Table.{plan_count, parent, entry, body_of, is_body, rank, children_before, children}
use Rattle.rules.specs.declared.Body.TheVariants.{AnyOrder}
use Rattle.rules.specs.declared.PlanState.TheVariants.{Ready, Activated}
use Rattle.rules.proofs.Codes.{state_is, test_byte}
use Rattle.children.specs.Sets.{Rooted}
use Rattle.children.proofs.Kin.{some_snoc, children_own, children_other, children_none}
use Rattle.demands.specs.Witness.{last, first_marked, activated_child, witness}
use Rattle.parts.specs.OneStep.{Witnessed}

-- one number more at the end of a list: the first and the last that pass a test
first_snoc :
    (f : ℕ → Bool) (ks : List ℕ) (k : ℕ) → first f (ks ++ k ∷ []) ≡ cond (some f ks) (first f ks) (cond (f k) k no_plan)
first_snoc f [] k = refl
first_snoc f (x ∷ ks) k = rw (first_snoc f ks k) (go (f x))
  where
    go :
        (b : Bool)
        → cond b x (cond (some f ks) (first f ks) (cond (f k) k no_plan))
        ≡ cond (b || some f ks) (cond b x (first f ks)) (cond (f k) k no_plan)
    go true = refl
    go false = refl

last_snoc : (f : ℕ → Bool) (ks : List ℕ) (k : ℕ) → last f (ks ++ k ∷ []) ≡ cond (f k) k (last f ks)
last_snoc f [] k = refl
last_snoc f (x ∷ ks) k = rw (some_snoc f ks k true, last_snoc f ks k) (go (f k) (some f ks))
  where
    go :
        (b c : Bool)
        → cond (c || b) (cond b k (last f ks)) (cond (f x) x no_plan)
        ≡ cond b k (cond c (last f ks) (cond (f x) x no_plan))
    go true true = refl
    go true false = refl
    go false true = refl
    go false false = refl

-- where a number of a list passes two tests, it passes the first
some_first : (f g : ℕ → Bool) (ks : List ℕ) → some (λ c. f c && g c) ks ≡ true → some f ks ≡ true
some_first f g [] e = absurd (false≢true e)
some_first f g (k ∷ ks) e = go (f k) (g k) e (some_first f g ks)
  where
    go :
        (a b : Bool) → (a && b || some (λ c. f c && g c) ks) ≡ true → (some (λ c. f c && g c) ks ≡ true → some f ks ≡ true)
        → (a || some f ks) ≡ true
    go true b e ih = refl
    go false b e ih = ih e

-- Of the candidates, the first that is marked, else the last: kept while the list grows at its end. `is_open` says whether anything is kept
-- at all (the plan is any-order), v is the rank of what is kept, and m tells by the code of Activated that it is marked.
module _ (candidate marked : ℕ → Bool) (ranked : ℕ → ℕ) (is_open : Bool) where
  abbrev both : ℕ → Bool
  both c = candidate c && marked c

  abbrev target : List ℕ → ℕ
  target ks = first_marked candidate marked ks

  pub record Kept (ks : List ℕ) (v m : ℕ) : Type 0 where
    pub pick : v ≡ cond (is_open && some candidate ks) (ranked (target ks)) 0
    pub fixed : is_open ≡ true → eqb m (code Activated) ≡ some both ks

  pub kept_none : Kept [] 0 0
  kept_none = record { pick = rw (and-false is_open) refl; fixed = λ e. refl }

  module _ (ks : List ℕ) (v m k : ℕ) where
    both_more : some both (ks ++ k ∷ []) ≡ (some both ks || both k)
    both_more = some_snoc both ks k true

    some_more : some candidate (ks ++ k ∷ []) ≡ (some candidate ks || candidate k)
    some_more = some_snoc candidate ks k true

    target_more : target (ks ++ k ∷ []) ≡ cond (candidate k) (cond (some both ks) (target ks) k) (target ks)
    target_more =
        rw (both_more, first_snoc both ks k, last_snoc candidate ks k)
        (go (candidate k) (marked k) (some both ks))
      where
        go :
            (a m b : Bool)
            → cond (b || a && m) (cond b (first both ks) (cond (a && m) k no_plan)) (cond a k (last candidate ks))
            ≡ cond a (cond b (cond b (first both ks) (last candidate ks)) k) (cond b (first both ks) (last candidate ks))
        go true true true = refl
        go true true false = refl
        go true false true = refl
        go true false false = refl
        go false m true = refl
        go false m false = refl

    -- one that is no candidate changes nothing
    pub kept_past : candidate k ≡ false → Kept ks v m → Kept (ks ++ k ∷ []) v m
    kept_past e h =
        record {
          pick = h.pick ∙ sym (rw (some_more, target_more, e, or-false (some candidate ks)) refl);
          fixed = λ o. h.fixed o ∙ sym (both_more ∙ rw e (or-false (some both ks)));
        }

    -- a candidate changes nothing where nothing is kept, or what is kept is marked
    pub kept_stays : candidate k ≡ true → (eqb m (code Activated) || not is_open) ≡ true → Kept ks v m → Kept (ks ++ k ∷ []) v m
    kept_stays e stays h = go is_open refl
      where
        go : (b : Bool) → is_open ≡ b → Kept (ks ++ k ∷ []) v m
        go false o =
            record {
              pick = h.pick ∙ rw (o) refl;
              fixed = λ o'. absurd (true≢false (sym o' ∙ o));
            }
        go true o =
            let is_fixed : eqb m (code Activated) ≡ true = sym (or-false (eqb m (code Activated))) ∙ rw o at stays in
            let some_both : some both ks ≡ true = sym (h.fixed o) ∙ is_fixed in
            let some_candidate : some candidate ks ≡ true = some_first candidate marked ks some_both in
            record {
              pick = h.pick ∙ sym (rw (some_more, target_more, e, some_both, some_candidate) refl);
              fixed = λ o'. is_fixed ∙ sym (both_more ∙ rw some_both refl);
            }

    -- else it takes the place
    pub kept_takes :
        (m' : ℕ) → candidate k ≡ true → (eqb m (code Activated) || not is_open) ≡ false → eqb m' (code Activated) ≡ marked k → Kept ks v m
        → Kept (ks ++ k ∷ []) (ranked k) m'
    kept_takes m' e takes em h = go is_open refl
      where
        go : (b : Bool) → is_open ≡ b → Kept (ks ++ k ∷ []) (ranked k) m'
        go false o = absurd (true≢false (sym (or-true (eqb m (code Activated))) ∙ rw o at takes))
        go true o =
            let not_fixed : eqb m (code Activated) ≡ false = sym (or-false (eqb m (code Activated))) ∙ rw o at takes in
            let none_both : some both ks ≡ false = sym (h.fixed o) ∙ not_fixed in
            record {
              pick = sym (rw (some_more, target_more, e, none_both, o, or-true (some candidate ks)) refl);
              fixed = λ o'. em ∙ sym (both_more ∙ rw (none_both, e) refl);
            }

-- One pass up through the plans.
module _ (t s shown : List ℕ) where
  abbrev is_ready : ℕ → Bool
  is_ready c = is Ready (state_at s c)

  abbrev is_shown : ℕ → Bool
  is_shown c = is Activated (state_at shown c)

  abbrev picks_any : ℕ → Bool
  picks_any q = is_body AnyOrder (body_of (entry t q))

  abbrev KeptBefore : ℕ → ℕ → ℕ → ℕ → Type 0
  KeptBefore q p v m = Kept is_ready is_shown (rank t) (picks_any q) (children_before t q p) v m

  -- what `find_picks` knows before its turn at plan p
  pub record Finding (n : ℕ) (picks₀ fixed₀ : List ℕ) (p : ℕ) (picks fixed : List ℕ) : Type 0 where
    pub started : 0 < p
    pub within : p ≤ n
    pub long : length picks ≡ length picks₀
    pub fixed_long : length fixed ≡ length fixed₀
    pub kept : (q : ℕ) → q < p → KeptBefore q p (byte_at picks q) (byte_at fixed q)

  pub finding_root :
      (n : ℕ) (picks fixed : List ℕ) → 0 < n → byte_at picks 0 ≡ 0 → byte_at fixed 0 ≡ 0 → Finding n picks fixed 1 picks fixed
  unfolding children_before
  finding_root n picks fixed some first_zero fixed_zero =
      record {
        started = omega arith;
        within = omega arith;
        long = refl;
        fixed_long = refl;
        kept =
            λ q l.
            let e : q ≡ 0 = omega arith in
            rw (e, first_zero, fixed_zero) (kept_none is_ready is_shown (rank t) (picks_any 0));
      }

  -- what a turn at a Ready plan p, the child of q, needs and does, in the code's words: `skips` is its test
  pub record PickTurn (n : ℕ) (picks₀ fixed₀ : List ℕ) (p : ℕ) (picks fixed : List ℕ) (q r : ℕ) (skips : Bool) : Type 0 where
    pub keeps : skips ≡ true → Finding n picks₀ fixed₀ (p + 1) (set picks p 0) (set fixed p 0)
    pub takes :
        skips ≡ false → Finding n picks₀ fixed₀ (p + 1) (set (set picks p 0) q r) (set (set fixed p 0) q (byte_at shown p))

  -- A turn at plan p.
  module _
      (n p : ℕ)
      (rooted : Rooted t n)
      (picks₀ fixed₀ picks fixed : List ℕ)
      (room : n ≤ length picks₀)
      (fixed_room : n ≤ length fixed₀)
      (before : Finding n picks₀ fixed₀ p picks fixed)
      (l : p < n)
    where
      abbrev cleared : List ℕ
      cleared = set picks p 0

      abbrev loose : List ℕ
      loose = set fixed p 0

      abbrev q : ℕ
      q = parent t p

      pub parent_before : q < p
      parent_before = rooted.down p before.started l

      cleared_long : length cleared ≡ length picks₀
      cleared_long = length-set picks p 0 ∙ before.long

      loose_long : length loose ≡ length fixed₀
      loose_long = length-set fixed p 0 ∙ before.fixed_long

      -- plan p has no child yet, and the others keep what they had
      cleared_kept : (k : ℕ) → k < p + 1 → Dec (k ≡ p) → KeptBefore k p (byte_at cleared k) (byte_at loose k)
      cleared_kept k lk (yes e) =
          rw (
            e,
            get_or-set_same picks p 0 0 (omega (arith, before.long)),
            get_or-set_same fixed p 0 0 (omega (arith, before.fixed_long)),
            children_none t n rooted p p (omega arith) (omega arith),
          )
          (kept_none is_ready is_shown (rank t) (picks_any p))
      cleared_kept k lk (no ne) =
          rw (get_or-set_other picks p k 0 0 ne, get_or-set_other fixed p k 0 0 ne) (before.kept k (omega arith))

      held : KeptBefore q p (byte_at cleared q) (byte_at loose q)
      held = cleared_kept q (omega (arith, parent_before)) (ℕ_discrete q p)

      -- only the parent has one child more, so only what it keeps is to be looked at
      module _
          (after fixed_after : List ℕ)
          (long : length after ≡ length picks₀)
          (fixed_long : length fixed_after ≡ length fixed₀)
          (others : (k : ℕ) → (k ≡ q → ⊥) → byte_at after k ≡ byte_at cleared k)
          (fixed_others : (k : ℕ) → (k ≡ q → ⊥) → byte_at fixed_after k ≡ byte_at loose k)
          (own :
          Kept is_ready is_shown (rank t) (picks_any q) (children_before t q p ++ p ∷ []) (byte_at after q) (byte_at fixed_after q))
        where
          next_kept : (k : ℕ) → k < p + 1 → Dec (k ≡ q) → KeptBefore k (suc p) (byte_at after k) (byte_at fixed_after k)
          next_kept k lk (yes e) = rw (e, children_own t q p before.started refl) own
          next_kept k lk (no ne) =
              rw (others k ne, fixed_others k ne, children_other t k p before.started (λ e. ne (sym e)))
              (cleared_kept k lk (ℕ_discrete k p))

          next : Finding n picks₀ fixed₀ (p + 1) after fixed_after
          next =
              record {
                started = omega arith;
                within = omega arith;
                long = long;
                fixed_long = fixed_long;
                kept = λ k lk. rw (add-one p) (next_kept k lk (ℕ_discrete k q));
              }

      next_cleared :
          Kept is_ready is_shown (rank t) (picks_any q) (children_before t q p ++ p ∷ []) (byte_at cleared q) (byte_at loose q)
          → Finding n picks₀ fixed₀ (p + 1) cleared loose
      next_cleared h = next cleared loose cleared_long loose_long (λ k ne. refl) (λ k ne. refl) h

      ready_by : (b : Bool) → eqb (byte_at s p) (code Ready) ≡ b → is_ready p ≡ b
      ready_by b e = ap (is Ready) (state_is s p) ∙ sym (test_byte Ready refl (byte_at s p)) ∙ e

      shown_is : eqb (byte_at shown p) (code Activated) ≡ is_shown p
      shown_is = test_byte Activated refl (byte_at shown p) ∙ ap (is Activated) (sym (state_is shown p))

      pub finding_past : (byte_at s p ≡ code Ready → ⊥) → Finding n picks₀ fixed₀ (p + 1) cleared loose
      finding_past ne =
          next_cleared (kept_past is_ready is_shown (rank t) (picks_any q) _ _ _ p (ready_by false (ne_eqb _ _ ne)) held)

      pub pick_turn :
          byte_at s p ≡ code Ready → (above : ℕ) → above ≡ q → (r : ℕ) → r ≡ rank t p → (skips : Bool)
          → skips ≡ (eqb (byte_at loose above) (code Activated) || not (picks_any above))
          → PickTurn n picks₀ fixed₀ p picks fixed above r skips
      pick_turn e above is_parent r is_rank skips is_test = rw (is_parent, is_rank) turn
        where
          ready : is_ready p ≡ true
          ready = ready_by true (eq-eqb _ _ e)

          test : skips ≡ (eqb (byte_at loose q) (code Activated) || not (picks_any q))
          test = rw is_parent at is_test

          reads : q < length cleared
          reads = omega (arith, parent_before, cleared_long)

          fixed_reads : q < length loose
          fixed_reads = omega (arith, parent_before, loose_long)

          -- the parent's pick is that of p
          taken : skips ≡ false → Finding n picks₀ fixed₀ (p + 1) (set cleared q (rank t p)) (set loose q (byte_at shown p))
          taken going =
              next (set cleared q (rank t p)) (set loose q (byte_at shown p)) (length-set cleared q (rank t p) ∙ cleared_long)
              (length-set loose q (byte_at shown p) ∙ loose_long)
              (λ k ne. get_or-set_other cleared q k (rank t p) 0 ne)
              (λ k ne. get_or-set_other loose q k (byte_at shown p) 0 ne)
              (rw (get_or-set_same cleared q (rank t p) 0 reads, get_or-set_same loose q (byte_at shown p) 0 fixed_reads)
              (kept_takes is_ready is_shown (rank t) (picks_any q) _ (byte_at cleared q) (byte_at loose q) p (byte_at shown p) ready
              (sym test ∙ going) shown_is held))

          turn : PickTurn n picks₀ fixed₀ p picks fixed q (rank t p) skips
          turn =
              record {
                keeps =
                    λ skipped.
                    next_cleared
                    (kept_stays is_ready is_shown (rank t) (picks_any q) _ _ (byte_at loose q) p ready (sym test ∙ skipped) held);
                takes = taken;
              }

  -- after the last turn
  pub all_found :
      (n p : ℕ) (picks₀ fixed₀ picks fixed : List ℕ) → n ≡ plan_count t → n ≤ p → Finding n picks₀ fixed₀ p picks fixed
      → Witnessed t s shown picks
  unfolding activated_child witness children
  all_found n p picks₀ fixed₀ picks fixed whole end after =
      record { pick = λ q l. (rw all at (after.kept q (omega (arith, all)))).pick }
    where
      all : p ≡ plan_count t
      all = omega (arith, after.within)
