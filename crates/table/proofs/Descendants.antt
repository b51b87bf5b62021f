-- In preorder the descendants of a plan are the plans behind it, up to the first whose parent stands before it. Assumes nothing.
use Prim.Native.Nat.{ℕ, zero, suc, ◌-◌, ◌≤◌, ◌<◌}
use native.Mathlib.Omega.{arith}
use native.Mathlib.Decide.{ℕ_discrete, dec_lt}
use mathlib.Core.Path.{◌≡◌, refl, sym, ap, ◌∙◌}
use mathlib.Core.Bool.{Bool, true, false, cond, ◌&&◌, true≢false}
use mathlib.Core.List.{List}
use lib.Dec.{ltb, leb}
use borrow.Author.Tests.{ltb-true, ltb-false, lt-ltb, le-ltb, le-leb, lt-leb}
use Rattle.rules.specs.Lists.{highest}
use Rattle.rules.specs.Table.{plan_count, parent, is_or_is_above}
use Rattle.rules.specs.SubTree.{last_descendant}
use Rattle.rules.proofs.Tree.{above_le}
use Rattle.lowest.specs.Lowest.{Lowest}
use Rattle.table.specs.Facts.{outside}
use Rattle.std.specs.Prelude.{Option, Some, None}
use Rattle.std.specs.Option.{unwrap_or}
use Rattle.table.proofs.Climb.{is_self, climb_on}

-- the highest number that passes a test is one that does, where none above it does
pub highest_is :
    (f : ℕ → Bool) (n k : ℕ) → k < n → f k ≡ true → ((j : ℕ) → k < j → j < n → f j ≡ false) → highest f n ≡ k
unfolding highest
highest_is f zero k l e none = absurd (omega arith)
highest_is f (suc n) k l e none = go (ℕ_discrete k n) (highest_is f n k)
  where
    go :
        Dec (k ≡ n)
        → (k < n → f k ≡ true → ((j : ℕ) → k < j → j < n → f j ≡ false) → highest f n ≡ k)
        → cond (f n) n (highest f n) ≡ k
    go (yes i) ih = rw (ap f (sym i) ∙ e) (sym i)
    go (no i) ih = rw (none n (omega arith) (omega arith)) (ih (omega arith) e (λ j a b. none j a (omega arith)))

-- what `outside` says of a plan behind the plan, and of one that is not
pub behind : (t : List ℕ) (plan d : ℕ) → plan < d → outside t plan d ≡ ltb (parent t d) plan
behind t plan d h = ap (λ (b : Bool). b && ltb (parent t d) plan) (lt-ltb plan d h)

pub not_behind : (t : List ℕ) (plan d : ℕ) → d ≤ plan → outside t plan d ≡ false
not_behind t plan d h = ap (λ (b : Bool). b && ltb (parent t d) plan) (le-ltb plan d h)

-- plan e is the first behind the plan that is outside its sub tree, or there is none and e is n
pub record Ends (t : List ℕ) (n plan e : ℕ) : Type 0 where
  pub here : plan < e
  pub within : e ≤ n
  pub before : (k : ℕ) → k < e → outside t plan k ≡ false
  pub found : e < n → outside t plan e ≡ true

pub ends_at : (t : List ℕ) (n plan : ℕ) → plan < n → (r : Option ℕ) → Lowest (outside t plan) n r → Ends t n plan (unwrap_or r n)
ends_at t n plan there None none =
    record { here = there; within = omega arith; before = none; found = λ l. absurd (omega arith) }
ends_at t n plan there (Some e) (l, out, before) =
    record { here = go (dec_lt plan e); within = omega arith; before = before; found = λ l. out }
  where
    go : Dec (plan < e) → plan < e
    go (yes h) = h
    go (no h) = absurd (true≢false (sym out ∙ not_behind t plan e (omega arith)))

module _ (t : List ℕ) (n : ℕ) (down : (k : ℕ) → 0 < k → k < n → parent t k < k) where
  -- what is above a plan above c is above c
  trans_to :
      (bound a b c : ℕ) → c < bound → c < n → is_or_is_above t a b b ≡ true → is_or_is_above t b c c ≡ true → is_or_is_above t a c c ≡ true
  trans_to zero a b c i l h k = absurd (omega arith)
  trans_to (suc bound) a b c i l h k = go (ℕ_discrete b c) (λ p. trans_to bound a b p)
    where
      go :
          Dec (b ≡ c)
          → ((p : ℕ) → p < bound → p < n → is_or_is_above t a b b ≡ true → is_or_is_above t b p p ≡ true → is_or_is_above t a p p ≡ true)
          → is_or_is_above t a c c ≡ true
      go (yes e) ih = rw (← e) h
      go (no d) ih =
          let bc = above_le t n down b c c l k in
          let lower : b < c = omega arith in
          let up = down c (omega arith) l in
          let ab = above_le t n down a b b (omega arith) h in
          climb_on t n down a c l (omega arith)
          ∙ ih (parent t c) (omega arith) (omega arith) h (sym (climb_on t n down b c l lower) ∙ k)

  above_trans :
      (a b c : ℕ) → c < n → is_or_is_above t a b b ≡ true → is_or_is_above t b c c ≡ true → is_or_is_above t a c c ≡ true
  above_trans a b c = trans_to (suc c) a b c (omega arith)

  module _
      (rule : (k : ℕ) → suc k < n → is_or_is_above t (parent t (suc k)) k k ≡ true)
      (plan e : ℕ)
      (ends : Ends t n plan e)
    where
      -- d is the plan or one of its descendants
      abbrev below : ℕ → Bool
      below d = is_or_is_above t plan d d

      -- no plan before it
      none_before : (d : ℕ) → d < n → d < plan → below d ≡ false
      none_before d l h = go (below d) refl
        where
          go : (b : Bool) → below d ≡ b → below d ≡ false
          go true i = absurd (omega (arith, above_le t n down plan d d l i))
          go false i = i

      -- all plans from it to the end
      all_to : (bound d : ℕ) → d < bound → plan ≤ d → d < e → below d ≡ true
      all_to zero d i h l = absurd (omega arith)
      all_to (suc bound) d i h l = go (ℕ_discrete plan d) (λ p. all_to bound p)
        where
          w : e ≤ n
          w = ends.within

          go : Dec (plan ≡ d) → ((p : ℕ) → p < bound → plan ≤ p → p < e → below p ≡ true) → below d ≡ true
          go (yes s) ih = rw (← s) (is_self t plan plan)
          go (no s) ih =
              let later : plan < d = omega arith in
              let up = down d (omega arith) (omega (arith, w)) in
              let inside = ltb-false (parent t d) plan (sym (behind t plan d later) ∙ ends.before d l) in
              climb_on t n down plan d (omega (arith, w)) later ∙ ih (parent t d) (omega arith) inside (omega arith)

      -- none from the end on
      none_after : (d : ℕ) → e ≤ d → d < n → below d ≡ false
      none_after zero h l = absurd (omega arith)
      none_after (suc d) h l = go (ℕ_discrete e (suc d)) (none_after d) (below (suc d)) refl
        where
          climbs : below (suc d) ≡ below (parent t (suc d))
          climbs = climb_on t n down plan (suc d) l (omega arith)

          go :
              Dec (e ≡ suc d) → (e ≤ d → d < n → below d ≡ false) → (b : Bool) → below (suc d) ≡ b → below (suc d) ≡ false
          go i ih false b = b
          go (yes i) ih true b =
              let out = ltb-true (parent t e) plan (sym (behind t plan e ends.here) ∙ ends.found (omega arith)) in
              let before = rw i at out in
              climbs ∙ none_before (parent t (suc d)) (omega arith) before
          go (no i) ih true b =
              let same = above_trans plan (parent t (suc d)) d (omega arith) (sym climbs ∙ b) (rule d l) in
              absurd (true≢false (sym same ∙ ih (omega arith) (omega arith)))

      -- the plan and its descendants are the plans from it to the end
      pub descendants : (d : ℕ) → d < n → below d ≡ (leb plan d && ltb d e)
      descendants d l = go (dec_lt d plan) (dec_lt d e)
        where
          go : Dec (d < plan) → Dec (d < e) → below d ≡ (leb plan d && ltb d e)
          go (yes h) j = none_before d l h ∙ sym (ap (λ (b : Bool). b && ltb d e) (lt-leb plan d h))
          go (no h) (yes j) =
              all_to (suc d) d (omega arith) (omega arith) j
              ∙ sym (ap (λ (b : Bool). b && ltb d e) (le-leb plan d (omega arith)) ∙ lt-ltb d e j)
          go (no h) (no j) =
              none_after d (omega arith) l
              ∙ sym (ap (λ (b : Bool). b && ltb d e) (le-leb plan d (omega arith)) ∙ le-ltb d e (omega arith))

      pub last_is : n ≡ plan_count t → last_descendant t plan ≡ e - 1
      unfolding last_descendant
      last_is whole =
          let w = ends.within in
          rw (← whole)
          (highest_is below n (e - 1) (omega arith) (all_to (suc (e - 1)) (e - 1) (omega arith) (omega arith) (omega arith))
          (λ j h l. none_after j (omega arith) l))
