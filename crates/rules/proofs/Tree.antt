-- What a table that passes its checks is: a tree in preorder. Assumes nothing.
use Prim.Native.Nat.{ℕ, zero, suc, ◌≤◌, ◌<◌}
use native.Mathlib.Omega.{arith}
use native.Mathlib.Decide.{ℕ_discrete}
use mathlib.Core.Path.{◌≡◌, refl, sym, ap, ◌∙◌}
use mathlib.Core.Bool.{Bool, true, false, cond, not, ◌&&◌, ◌||◌, true≢false, false≢true}
use mathlib.Core.List.{List}
use lib.ListN.{length}
use lib.Dec.{eqb, leb, ltb}
use borrow.Author.Tests.{eqb-true, eqb-false, leb-false, ltb-false, not-false}
use Rattle.rules.specs.Table.{plan_count, parent, rank, is_or_is_above}
use Rattle.rules.specs.WaitFor.{first_version, table_size}
use Rattle.rules.specs.Answers.{unrooted, bad_parent, undefined_byte, unfit, formulas_check, bad_wait, header_check, table_check, table_verdict, Outcome, Done}
use Rattle.rules.specs.declared.Refusal.{Refusal}
use Rattle.rules.proofs.Least.{nowhere}
use Rattle.rules.proofs.Outcomes.{first_done, then_done, if_done, at_done}
use Rattle.std.specs.Prelude.{Ok, Err}

pub or_left : (a b : Bool) → (a || b) ≡ false → a ≡ false
or_left true b e = e
or_left false b e = refl

pub or_right : (a b : Bool) → (a || b) ≡ false → b ≡ false
or_right true b e = absurd (true≢false e)
or_right false b e = e

-- the tests of a table that passes, one for each number
pub record Passes (t : List ℕ) : Type 0 where
  pub header : header_check t ≡ Done
  pub long : length t ≡ table_size t
  pub parents : (p : ℕ) → p < plan_count t → bad_parent t p ≡ false
  pub bytes : (p : ℕ) → p < plan_count t → undefined_byte t p ≡ false
  pub fits : (p : ℕ) → p < plan_count t → unfit t p ≡ false
  pub formulas : first_version t ≡ false → formulas_check t ≡ Done
  pub waits : (p : ℕ) → p < plan_count t → bad_wait t p ≡ false

-- what a table answers
pub accepted : (t : List ℕ) → table_check t ≡ Done → table_verdict t ≡ Ok (plan_count t)
unfolding table_verdict
accepted t e = rw (e, table_verdict)

pub refused : (t : List ℕ) (why : Refusal) → table_check t ≡ Err why → table_verdict t ≡ Err why
unfolding table_verdict
refused t why e = rw (e, table_verdict)

-- and what an answer tells
pub was_done : (t : List ℕ) (n : ℕ) → table_verdict t ≡ Ok n → (table_check t ≡ Done) × (n ≡ plan_count t)
was_done t n e = go (table_check t) refl
  where
    go : (o : Outcome) → table_check t ≡ o → (table_check t ≡ Done) × (n ≡ plan_count t)
    go (Ok tt) d = let same = sym e ∙ accepted t d in (d, cc)
    go (Err why) d =
        let other = sym e ∙ refused t why d in
        let z : ◌≡◌ {A = ℕ} 0 1 = cc in
        absurd (omega arith)

pub was_refused : (t : List ℕ) (why : Refusal) → table_verdict t ≡ Err why → table_check t ≡ Err why
was_refused t why e = go (table_check t) refl
  where
    go : (o : Outcome) → table_check t ≡ o → table_check t ≡ Err why
    go (Ok tt) d =
        let other = sym e ∙ accepted t d in
        let z : ◌≡◌ {A = ℕ} 0 1 = cc in
        absurd (omega arith)
    go (Err which) d = let same = sym e ∙ refused t which d in d ∙ cc

-- what check 6 gives: each plan but the first has an earlier parent, and its rank is below 64
pub record Tree (t : List ℕ) : Type 0 where
  pub some : 0 < plan_count t
  pub small : plan_count t ≤ 256
  pub down : (p : ℕ) → 0 < p → p < plan_count t → parent t p < p
  pub narrow : (p : ℕ) → p < plan_count t → rank t p < 64

pub passes : (t : List ℕ) → table_check t ≡ Done → Passes t
unfolding table_check
passes t done =
    let r₅ = then_done (header_check t) _ done in
    let r₆ = then_done _ _ r₅ in
    let r₇ = then_done _ _ r₆ in
    let r₈ = then_done _ _ r₇ in
    let r₂₂ = then_done _ _ r₈ in
    let r₉ = then_done _ _ r₂₂ in
    record {
      header = first_done (header_check t) _ done;
      long = eqb-true _ _ (not-false _ (if_done _ _ (first_done _ _ r₅)));
      parents = nowhere (bad_parent t) (plan_count t) (at_done _ _ (first_done _ _ r₆));
      bytes = nowhere (undefined_byte t) (plan_count t) (at_done _ _ (first_done _ _ r₇));
      fits = nowhere (unfit t) (plan_count t) (at_done _ _ (first_done _ _ r₈));
      formulas = λ second. sym (ap (λ (b : Bool). cond b Done (formulas_check t)) second) ∙ first_done _ _ r₂₂;
      waits = nowhere (bad_wait t) (plan_count t) (at_done _ _ r₉);
    }

-- the header's tests
pub record Header (t : List ℕ) : Type 0 where
  pub room : 8 ≤ length t
  pub some : 0 < plan_count t
  pub small : plan_count t ≤ 256

pub header : (t : List ℕ) → header_check t ≡ Done → Header t
unfolding header_check
header t done =
    let r₂ = then_done _ _ done in
    let r₃ = then_done _ _ r₂ in
    let none = if_done _ _ (then_done _ _ r₃) in
    let range = or_left (ltb (plan_count t) 1 || ltb 256 (plan_count t)) _ none in
    record {
      room = ltb-false _ _ (if_done _ _ (first_done _ _ done));
      some = ltb-false _ _ (or_left (ltb (plan_count t) 1) _ range);
      small = ltb-false _ _ (or_right (ltb (plan_count t) 1) _ range);
    }

-- where the plans up to m have earlier parents, what is or is above one of them is no later
module _ (t : List ℕ) (m : ℕ) (down : (k : ℕ) → 0 < k → k < m → parent t k < k) where
  pub above_le : (a fuel k : ℕ) → k < m → is_or_is_above t a fuel k ≡ true → a ≤ k
  unfolding is_or_is_above
  above_le a zero k l h = omega (arith, eqb-true a k h)
  above_le a (suc fuel) k l h = go (eqb a k) refl (eqb k 0) refl h (above_le a fuel (parent t k))
    where
      go :
          (b : Bool) → eqb a k ≡ b → (c : Bool) → eqb k 0 ≡ c → (b || not c && is_or_is_above t a fuel (parent t k)) ≡ true
          → (parent t k < m → is_or_is_above t a fuel (parent t k) ≡ true → a ≤ parent t k) → a ≤ k
      go true e c z x ih = omega (arith, eqb-true a k e)
      go false e true z x ih = absurd (false≢true x)
      go false e false z x ih =
          let lower = down k (pos k (eqb-false k 0 z)) l in
          omega (arith, ih (omega arith) x)
        where
          pos : (i : ℕ) → (i ≡ 0 → ⊥) → 0 < i
          pos i n = omega arith

-- where each of the first m plans has the plan before it, or an ancestor of that one, as its parent, parents are earlier
module _ (t : List ℕ) where
  pub rule_down :
      (m : ℕ) → ((k : ℕ) → suc k < m → is_or_is_above t (parent t (suc k)) k k ≡ true) → (k : ℕ) → 0 < k → k < m → parent t k < k
  rule_down zero rule k h l = absurd (omega arith)
  rule_down (suc m) rule k h l = go k (rule_down m (λ j i. rule j (omega arith))) (ℕ_discrete k m) h l
    where
      go : (j : ℕ) → ((i : ℕ) → 0 < i → i < m → parent t i < i) → Dec (j ≡ m) → 0 < j → j < suc m → parent t j < j
      go zero earlier d h i = absurd (omega arith)
      go (suc j) earlier (yes e) h i =
          omega (arith, above_le t m earlier (parent t (suc j)) j j (omega arith) (rule j (omega arith)))
      go (suc j) earlier (no n) h i = earlier (suc j) h (omega arith)

module _ (t : List ℕ) (parents : (p : ℕ) → p < plan_count t → bad_parent t p ≡ false) where
  pub rule_at : (k : ℕ) → suc k < plan_count t → is_or_is_above t (parent t (suc k)) k k ≡ true
  unfolding bad_parent
  rule_at k l = not-false (is_or_is_above t (parent t (suc k)) k k) (or_left _ (leb 64 (rank t (suc k))) (parents (suc k) l))

  narrow_at : (p : ℕ) → p < plan_count t → rank t p < 64
  unfolding bad_parent
  narrow_at p l = leb-false 64 (rank t p) (or_right (unrooted t p) _ (parents p l))

-- a table that passes is a tree
pub tree : (t : List ℕ) → Passes t → Tree t
tree t passed =
    let h = header t passed.header in
    record {
      some = h.some;
      small = h.small;
      down = rule_down t (plan_count t) (rule_at t passed.parents);
      narrow = narrow_at t passed.parents;
    }
