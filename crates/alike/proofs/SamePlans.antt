-- Two tables have the same plans but for byte 7: as many, and each with the same other bytes. What follows for what does not read byte 7.
-- Assumes nothing.
use Prim.Native.Nat.{ℕ, zero, suc, ◌≤◌, ◌<◌}
use native.Mathlib.Omega.{arith}
use mathlib.Core.Path.{◌≡◌, refl, sym, ◌∙◌, ap}
use mathlib.Core.Bool.{Bool, true, false, not, ◌&&◌, ◌||◌}
use mathlib.Core.List.{List}
use lib.Dec.{eqb}
use borrow.Author.Tests.{eqb-false}
use Rattle.rules.specs.Table.{plan_count, entry, body_of, is_body, parent, is_child, children_before, children, is_or_is_above}
use Rattle.rules.specs.WaitFor.{is_leaf}
use Rattle.rules.specs.declared.Body.TheVariants.{Leaf}
use Rattle.rules.specs.declared.PlanEntry.{PlanEntry}
use Rattle.rules.proofs.Tree.{Tree}

-- an entry with another byte 7
abbrev pub with_wait : ℕ → PlanEntry → PlanEntry
with_wait m e =
    record {
      parent = e.parent;
      body = e.body;
      flags = e.flags;
      present = e.present;
      manual = e.manual;
      overridable = e.overridable;
      wait = m;
    }

pub record SamePlans (t u : List ℕ) : Type 0 where
  pub plans : plan_count u ≡ plan_count t
  pub entries : (p : ℕ) → p < plan_count t → entry u p ≡ with_wait (entry u p).wait (entry t p)

module _ {t u : List ℕ} (s : SamePlans t u) where
  -- what does not read byte 7 is the same
  pub plan_as :
      {A : Type 0} (f : PlanEntry → A) → ((m : ℕ) (e : PlanEntry) → f (with_wait m e) ≡ f e) → (p : ℕ) → p < plan_count t
      → f (entry u p) ≡ f (entry t p)
  plan_as f unread p l = ap f (s.entries p l) ∙ unread (entry u p).wait (entry t p)

  pub plans_sym : SamePlans u t
  plans_sym =
      record {
        plans = sym s.plans;
        entries = λ p l. sym (ap (with_wait (entry t p).wait) (s.entries p (rw s.plans at l)));
      }

  pub parent_as : (p : ℕ) → p < plan_count t → parent u p ≡ parent t p
  parent_as = plan_as (λ e. e.parent) (λ m e. refl)

  pub leaf_as : (p : ℕ) → p < plan_count t → is_leaf u p ≡ is_leaf t p
  leaf_as = plan_as (λ e. is_body Leaf (body_of e)) (λ m e. refl)

  child_as : (q p : ℕ) → p < plan_count t → is_child u q p ≡ is_child t q p
  child_as q zero l = refl
  child_as q (suc p) l = rw (parent_as (suc p) l)

  pub before_as : (q k : ℕ) → k ≤ plan_count t → children_before u q k ≡ children_before t q k
  unfolding children_before
  before_as q zero l = refl
  before_as q (suc k) l = rw (before_as q k (omega arith), child_as q k l)

  pub children_as : (q : ℕ) → children u q ≡ children t q
  unfolding children
  children_as q = rw s.plans (before_as q (plan_count t) (omega arith))

  -- and so are the ancestors, if one table is a tree
  pub above_as : Tree t → (a fuel k : ℕ) → k < plan_count t → is_or_is_above u a fuel k ≡ is_or_is_above t a fuel k
  unfolding is_or_is_above
  above_as tree a zero k l = refl
  above_as tree a (suc fuel) k l = go (eqb k 0) refl (above_as tree a fuel (parent t k))
    where
      go :
          (b : Bool) → eqb k 0 ≡ b
          → (parent t k < plan_count t → is_or_is_above u a fuel (parent t k) ≡ is_or_is_above t a fuel (parent t k))
          → (eqb a k || not b && is_or_is_above u a fuel (parent u k)) ≡ (eqb a k || not b && is_or_is_above t a fuel (parent t k))
      go true z up = refl
      go false z up =
          let positive : 0 < k = omega (arith, eqb-false k 0 z) in
          ap (λ (b : Bool). eqb a k || b)
          (ap (is_or_is_above u a fuel) (parent_as k l) ∙ up (omega (arith, tree.down k positive l)))
