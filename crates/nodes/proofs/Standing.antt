-- `owner` is right: in a table that passes check 22 a node stands in the formula of its owner. A plan's first node stands in that plan's,
-- an operand where the node stands that asks it, and nothing else has these two properties. Assumes nothing.
use Prim.Native.Nat.{ℕ, zero, suc, ◌+◌, ◌≤◌, ◌<◌}
use native.Mathlib.Omega.{arith}
use native.Mathlib.Decide.{ℕ_discrete}
use mathlib.Core.Path.{◌≡◌, refl, sym, ap, ◌∙◌}
use mathlib.Core.Bool.{Bool, true, false, cond, not, ◌&&◌, ◌||◌, true≢false, false≢true}
use mathlib.Core.List.{List, [], ◌∷◌}
use lib.Dec.{eqb, leb, ltb}
use borrow.Author.Tests.{eq-eqb, eqb-true, leb-false, ltb-true, ltb-false, not-false}
use Rattle.rules.specs.Lists.{count, some, some_below, highest}
use Rattle.rules.specs.Table.{plan_count, entry}
use Rattle.rules.specs.WaitFor.{
  asks,
  operands,
  node_count,
  node,
  is_leaf,
  uses_node,
  begins_with,
  first_nodes,
  asked_nodes,
  uses,
  owner,
}
use Rattle.rules.specs.Answers.{stray_first, bad_bytes, bad_node, formulas_check, Done}
use Rattle.rules.proofs.Least.{nowhere}
use Rattle.rules.proofs.Outcomes.{first_done, then_done, at_done}
use Rattle.rules.proofs.Tree.{or_left, or_right}
use Rattle.rules.proofs.Below.{none_below, some_below_lem}
use Rattle.nodes.proofs.Uses.{count_append}
use Rattle.nodes.proofs.Owners.{owner_by_lem, eqb_swap}

-- what passes a test alone is the highest that does
alone_highest :
    (f : ℕ → Bool) (n k : ℕ) → k < n → f k ≡ true → ((j : ℕ) → j < n → (j ≡ k → ⊥) → f j ≡ false) → highest f n ≡ k
unfolding highest
alone_highest f zero k l is alone = absurd (omega arith)
alone_highest f (suc n) k l is alone = go (ℕ_discrete k n) (alone_highest f n k)
  where
    go :
        Dec (k ≡ n) → (k < n → f k ≡ true → ((j : ℕ) → j < n → (j ≡ k → ⊥) → f j ≡ false) → highest f n ≡ k)
        → cond (f n) n (highest f n) ≡ k
    go (yes e) below = rw (ap f (sym e) ∙ is) (sym e)
    go (no ne) below = rw (alone n (omega arith) (λ e. ne (sym e))) (below (omega arith) is (λ j m. alone j (omega arith)))

-- c counts, below each number, those that pass the test f, each at least once
record Counts (f : ℕ → Bool) (c : ℕ → ℕ) : Type 0 where
  start : c 0 ≡ 0
  grows : (k : ℕ) → f k ≡ true → c k < c (suc k)
  stays : (k : ℕ) → f k ≡ false → c (suc k) ≡ c k

module _ (f : ℕ → Bool) (c : ℕ → ℕ) (counts : Counts f c) where
  keeps : (k : ℕ) → c k ≤ c (suc k)
  keeps k = go (f k) refl
    where
      go : (b : Bool) → f k ≡ b → c k ≤ c (suc k)
      go true is = omega (arith, counts.grows k is)
      go false is = omega (arith, counts.stays k is)

  rises : (n k : ℕ) → k ≤ n → c k ≤ c n
  rises zero zero l = omega arith
  rises zero (suc k) l = absurd (omega arith)
  rises (suc n) k l = go (ℕ_discrete k (suc n)) (rises n k)
    where
      go : Dec (k ≡ suc n) → (k ≤ n → c k ≤ c n) → c k ≤ c (suc n)
      go (yes e) below = omega (arith, ap c e)
      go (no ne) below = omega (arith, below (omega arith), keeps n)

  counted : (n k : ℕ) → k < n → f k ≡ true → c k < c n
  counted n k l is = omega (arith, counts.grows k is, rises n (suc k) (omega arith))

  -- a count of 0 has met none, one of 1 only one, and any other than 0 some
  none_counted : (n : ℕ) → c n ≡ 0 → (k : ℕ) → k < n → f k ≡ false
  none_counted n nothing k l = go (f k) refl
    where
      go : (b : Bool) → f k ≡ b → b ≡ false
      go true is = absurd (omega (arith, counted n k l is))
      go false is = refl

  one_counted : (n k : ℕ) → c n ≤ 1 → k < n → f k ≡ true → (j : ℕ) → j < n → (j ≡ k → ⊥) → f j ≡ false
  one_counted n k one l is j m ne = go (f j) refl (ltb j k) refl
    where
      go : (b : Bool) → f j ≡ b → (x : Bool) → ltb j k ≡ x → b ≡ false
      go false at x e = refl
      go true at true e = absurd (omega (arith, counted k j (ltb-true j k e) at, counted n k l is))
      go true at false e =
          let above : k < j = omega (arith, ltb-false j k e, ne) in
          absurd (omega (arith, counted j k above is, counted n j m at))

  some_counted : (n : ℕ) → 0 < c n → (k : ℕ) × (k < n) × (f k ≡ true)
  some_counted zero l = absurd (omega (arith, counts.start))
  some_counted (suc n) l = go (f n) refl (some_counted n)
    where
      go : (b : Bool) → f n ≡ b → (0 < c n → (k : ℕ) × (k < n) × (f k ≡ true)) → (k : ℕ) × (k < suc n) × (f k ≡ true)
      go true is below = (n, omega arith, is)
      go false is below = let found = below (omega (arith, counts.stays n is)) in (found.0, omega (arith, found.1), found.2)

-- a list in which something passes a test has a count of what does
count_some : (f : ℕ → Bool) (l : List ℕ) → some f l ≡ true → 0 < count f l
count_some f [] e = absurd (false≢true e)
count_some f (k ∷ ks) e = go (f k) e (count_some f ks)
  where
    go : (b : Bool) → (b || some f ks) ≡ true → (some f ks ≡ true → 0 < count f ks) → 0 < cond b 1 0 + count f ks
    go true e rest = omega arith
    go false e rest = omega (arith, rest e)

count_none : (f : ℕ → Bool) (l : List ℕ) → some f l ≡ false → count f l ≡ 0
count_none f [] e = refl
count_none f (k ∷ ks) e = go (f k) e (count_none f ks)
  where
    go : (b : Bool) → (b || some f ks) ≡ false → (some f ks ≡ false → count f ks ≡ 0) → cond b 1 0 + count f ks ≡ 0
    go true e rest = absurd (true≢false e)
    go false e rest = omega (arith, rest e)

-- what some member of a list equals passes no test that no member passes
member_fails : (f : ℕ → Bool) (o : ℕ) (l : List ℕ) → some (eqb o) l ≡ true → some f l ≡ false → f o ≡ false
member_fails f o [] is none = absurd (false≢true is)
member_fails f o (k ∷ ks) is none = go (eqb o k) refl is (member_fails f o ks)
  where
    go :
        (b : Bool) → eqb o k ≡ b → (b || some (eqb o) ks) ≡ true → (some (eqb o) ks ≡ true → some f ks ≡ false → f o ≡ false)
        → f o ≡ false
    go true e is rest = rw (eqb-true o k e) (or_left (f k) (some f ks) none)
    go false e is rest = rest is (or_right (f k) (some f ks) none)

-- the two counts of uses of node j
module _ (t : List ℕ) (j : ℕ) where
  begun : ℕ → ℕ
  begun p = count (eqb j) (first_nodes t p)

  asked : ℕ → ℕ
  asked i = count (eqb j) (asked_nodes t i)

  begun_more : (p : ℕ) (b : Bool) → begins_with t j p ≡ b → begun (suc p) ≡ begun p + cond b 1 0
  unfolding first_nodes begun
  begun_more p b is =
      count_append (eqb j) (first_nodes t p) (cond (is_leaf t p) [] ((entry t p).wait ∷ []))
      ∙ ap (λ (x : ℕ). begun p + x) (rw (sym is, eqb_swap (entry t p).wait j) (one (is_leaf t p) (entry t p).wait))
    where
      one : (leaf : Bool) (x : ℕ) → count (eqb j) (cond leaf [] (x ∷ [])) ≡ cond (not leaf && eqb j x) 1 0
      one true x = refl
      one false x = omega arith

  begun_counts : Counts (begins_with t j) begun
  unfolding first_nodes begun
  begun_counts =
      record {
        start = refl;
        grows = λ p is. omega (arith, begun_more p true is);
        stays = λ p is. omega (arith, begun_more p false is);
      }

  asked_more : (i : ℕ) → asked (suc i) ≡ asked i + count (eqb j) (operands (asks (node t i)))
  unfolding asked_nodes asked
  asked_more i = count_append (eqb j) (asked_nodes t i) (operands (asks (node t i)))

  asked_counts : Counts (uses_node t j) asked
  unfolding asked_nodes asked
  asked_counts =
      record {
        start = refl;
        grows = λ i is. omega (arith, asked_more i, count_some (eqb j) (operands (asks (node t i))) is);
        stays = λ i is. omega (arith, asked_more i, count_none (eqb j) (operands (asks (node t i))) is);
      }

-- Every table that passes check 22.
module _ (t : List ℕ) (done : formulas_check t ≡ Done) where
  no_stray : (p : ℕ) → p < plan_count t → stray_first t p ≡ false
  unfolding formulas_check
  no_stray = nowhere (stray_first t) (plan_count t) (at_done _ _ (first_done _ _ (then_done _ _ done)))

  pub good : (i : ℕ) → i < node_count t → bad_node t i ≡ false
  unfolding formulas_check
  good = nowhere (bad_node t) (node_count t) (at_done _ _ (first_done _ _ (then_done _ _ (then_done _ _ done))))

  -- each node is used once, and operands are above who asks them
  used_once : (j : ℕ) → j < node_count t → begun t j (plan_count t) + asked t j (node_count t) ≡ 1
  unfolding bad_node uses begun asked
  used_once j l =
      let bad : Bool = some (λ o. leb o j || leb (node_count t) o) (operands (asks (node t j))) in
      eqb-true (uses t j) 1 (not-false (eqb (uses t j) 1) (or_right (bad_bytes (node t j) || bad) (not (eqb (uses t j) 1)) (good j l)))

  operand_far : (i o : ℕ) → i < node_count t → uses_node t o i ≡ true → (leb o i || leb (node_count t) o) ≡ false
  unfolding bad_node
  operand_far i o l is =
      let bad : Bool = some (λ o. leb o i || leb (node_count t) o) (operands (asks (node t i))) in
      let none : bad ≡ false =
      or_right (bad_bytes (node t i)) bad (or_left (bad_bytes (node t i) || bad) (not (eqb (uses t i) 1)) (good i l)) in
      member_fails (λ o. leb o i || leb (node_count t) o) o (operands (asks (node t i))) is none

  operand_above : (i o : ℕ) → i < node_count t → uses_node t o i ≡ true → i < o
  operand_above i o l is = leb-false o i (or_left (leb o i) (leb (node_count t) o) (operand_far i o l is))

  operand_there : (i o : ℕ) → i < node_count t → uses_node t o i ≡ true → o < node_count t
  operand_there i o l is = leb-false (node_count t) o (or_right (leb o i) (leb (node_count t) o) (operand_far i o l is))

  -- a plan with children begins with its first node, which is there
  begins : (p : ℕ) → is_leaf t p ≡ false → begins_with t (entry t p).wait p ≡ true
  begins p parts = rw (parts, eq-eqb (entry t p).wait (entry t p).wait refl)

  pub first_there : (p : ℕ) → p < plan_count t → is_leaf t p ≡ false → (entry t p).wait < node_count t
  unfolding stray_first
  first_there p l parts =
      leb-false (node_count t) (entry t p).wait (sym (ap (λ (b : Bool). not b && leb (node_count t) (entry t p).wait) parts) ∙ no_stray p l)

  -- a node that no node asks is the first of some plan's formula
  pub some_begins :
      (j : ℕ) → j < node_count t → ((i : ℕ) → i < node_count t → uses_node t j i ≡ false)
      → (p : ℕ) × (p < plan_count t) × (begins_with t j p ≡ true)
  some_begins j there unasked =
      some_counted (begins_with t j) (begun t j) (begun_counts t j) (plan_count t) (go (asked t j (node_count t)) refl)
    where
      go : (k : ℕ) → asked t j (node_count t) ≡ k → 0 < begun t j (plan_count t)
      go zero none = omega (arith, used_once j there)
      go (suc k) some =
          let found = some_counted (uses_node t j) (asked t j) (asked_counts t j) (node_count t) (omega (arith, some)) in
          absurd (true≢false (sym found.2 ∙ unasked found.0 found.1))

  -- the first node of a plan's formula stands in it
  pub first_stands : (p : ℕ) → p < plan_count t → is_leaf t p ≡ false → owner t (entry t p).wait ≡ p
  first_stands p l parts =
      let j : ℕ = (entry t p).wait in
      let there : j < node_count t = first_there p l parts in
      let once = used_once j there in
      let met = counted (begins_with t j) (begun t j) (begun_counts t j) (plan_count t) p l (begins p parts) in
      let unasked : some_below (uses_node t j) j ≡ false =
      none_below (uses_node t j) j
      (λ i m. none_counted (uses_node t j) (asked t j) (asked_counts t j) (node_count t) (omega (arith, once, met)) i (omega arith)) in
      let alone : highest (begins_with t j) (plan_count t) ≡ p =
      alone_highest (begins_with t j) (plan_count t) p l (begins p parts)
      (one_counted (begins_with t j) (begun t j) (begun_counts t j) (plan_count t) p (omega (arith, once)) l (begins p parts)) in
      sym (owner_by_lem t j)
      ∙ ap (λ (b : Bool). cond b (owner t (highest (uses_node t j) j)) (highest (begins_with t j) (plan_count t))) unasked
      ∙ alone

  -- and an operand stands where who asks it does
  pub operand_stands : (i o : ℕ) → i < node_count t → uses_node t o i ≡ true → owner t o ≡ owner t i
  operand_stands i o l is =
      let above : i < o = operand_above i o l is in
      let there : o < node_count t = operand_there i o l is in
      let once = used_once o there in
      let asks_it : some_below (uses_node t o) o ≡ true = some_below_lem (uses_node t o) o i above is in
      let alone : highest (uses_node t o) o ≡ i =
      alone_highest (uses_node t o) o i above is
      (λ k m. one_counted (uses_node t o) (asked t o) (asked_counts t o) (node_count t) i (omega (arith, once)) l is k (omega arith)) in
      sym (owner_by_lem t o)
      ∙ ap (λ (b : Bool). cond b (owner t (highest (uses_node t o) o)) (highest (begins_with t o) (plan_count t))) asks_it
      ∙ ap (owner t) alone

  -- whatever has these two properties is the owner: each node is a plan's first, or is asked by a lower one
  module _
      (w : ℕ → ℕ)
      (first : (p : ℕ) → p < plan_count t → is_leaf t p ≡ false → w (entry t p).wait ≡ p)
      (operand : (i o : ℕ) → i < node_count t → uses_node t o i ≡ true → w o ≡ w i)
    where
      by_first : (j p : ℕ) → p < plan_count t → begins_with t j p ≡ true → w j ≡ owner t j
      by_first j p l is = go (is_leaf t p) refl is
        where
          go : (leaf : Bool) → is_leaf t p ≡ leaf → (not leaf && eqb (entry t p).wait j) ≡ true → w j ≡ owner t j
          go true parts is = absurd (false≢true is)
          go false parts is = rw (sym (eqb-true (entry t p).wait j is)) (first p l parts ∙ sym (first_stands p l parts))

      up_to : (k j : ℕ) → j < k → j < node_count t → w j ≡ owner t j
      up_to zero j l there = absurd (omega arith)
      up_to (suc k) j l there = go (begun t j (plan_count t)) refl (up_to k)
        where
          go :
              (b : ℕ) → begun t j (plan_count t) ≡ b → ((i : ℕ) → i < k → i < node_count t → w i ≡ owner t i)
              → w j ≡ owner t j
          go zero none below =
              let found =
              some_counted (uses_node t j) (asked t j) (asked_counts t j) (node_count t) (omega (arith, used_once j there, none)) in
              let i : ℕ = found.0 in
              let near : i < j = operand_above i j found.1 found.2 in
              operand i j found.1 found.2 ∙ below i (omega arith) found.1 ∙ sym (operand_stands i j found.1 found.2)
          go (suc b) some below =
              let found = some_counted (begins_with t j) (begun t j) (begun_counts t j) (plan_count t) (omega (arith, some)) in
              by_first j found.0 found.1 found.2

      pub owner_is : (j : ℕ) → j < node_count t → w j ≡ owner t j
      owner_is j there = up_to (suc j) j (omega arith) there
