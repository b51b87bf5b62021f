-- Two tables are alike: they differ in byte 7 of the plans (`wait`) and in how wait-for is written, not in what it means. So a table of
-- version 1 stands to the one of version 2 that it is moved into (document 02 (vi)). What follows for entries and children. Assumes
-- nothing.
use Prim.Native.Nat.{ℕ, ◌<◌}
use mathlib.Core.Bool.{Bool}
use mathlib.Core.Path.{◌≡◌, sym}
use mathlib.Core.List.{List}
use Rattle.rules.specs.Table.{plan_count, entry, parent, children}
use Rattle.rules.specs.WaitFor.{wait_for}
use Rattle.rules.specs.declared.PlanEntry.{PlanEntry}
use Rattle.alike.proofs.SamePlans.{SamePlans, plan_as, plans_sym, parent_as, children_as}
pub use Rattle.alike.proofs.SamePlans.{with_wait}

-- as many plans, the same bytes but for byte 7, and the same meaning of wait-for, whichever test children are to pass
pub record Alike (t u : List ℕ) : Type 0 where
  pub plans : plan_count u ≡ plan_count t
  pub entries : (p : ℕ) → p < plan_count t → entry u p ≡ with_wait (entry u p).wait (entry t p)
  pub waits : (p : ℕ) → p < plan_count t → (f : ℕ → Bool) → wait_for u p f ≡ wait_for t p f

module _ {t u : List ℕ} (a : Alike t u) where
  pub same_plans : SamePlans t u
  same_plans = record { plans = a.plans; entries = a.entries }

  -- what does not read byte 7 is the same
  pub same_entry :
      {A : Type 0} (f : PlanEntry → A) → ((m : ℕ) (e : PlanEntry) → f (with_wait m e) ≡ f e) → (p : ℕ) → p < plan_count t
      → f (entry u p) ≡ f (entry t p)
  same_entry = plan_as same_plans

  pub alike_sym : Alike u t
  alike_sym =
      let back = plans_sym same_plans in
      record {
        plans = back.plans;
        entries = back.entries;
        waits = λ p l f. sym (a.waits p (rw a.plans at l) f);
      }

  pub same_parent : (p : ℕ) → p < plan_count t → parent u p ≡ parent t p
  same_parent = parent_as same_plans

  pub same_children : (q : ℕ) → children u q ≡ children t q
  same_children = children_as same_plans
