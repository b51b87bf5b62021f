-- The sub tree question, case by case. Assumes nothing.
use Prim.Native.Nat.{ℕ, suc, ◌-◌, ◌≤◌, ◌<◌}
use native.Mathlib.Omega.{arith}
use mathlib.Core.Path.{◌≡◌, refl, ap}
use mathlib.Core.Bool.{Bool, false, cond, ◌&&◌, and-false}
use mathlib.Core.List.{List, []}
use lib.Dec.{eqb, ltb}
use lib.ListN.{length, take, drop}
use borrow.Author.Tests.{eq-eqb, ne_eqb, lt-ltb, le-ltb}
use Rattle.rules.specs.Table.{plan_count}
use Rattle.rules.specs.Answers.{is_done, table_check, Done}
use Rattle.rules.specs.SubTree.{last_descendant, sub_tree}
use Rattle.rules.specs.declared.Refusal.{Refusal}
use Rattle.rules.proofs.Tree.{passes, tree, rule_at}
use Rattle.table.proofs.Descendants.{Ends, last_is}
use Rattle.std.specs.Prelude.{Err}

module _ (t s : List ℕ) (plan : ℕ) where
  -- a test that fails leaves nothing
  empty : (b : Bool) (l : List ℕ) → b ≡ false → cond b l [] ≡ []
  empty b l e = rw e

  pub none_of_refused : (why : Refusal) → table_check t ≡ Err why → sub_tree t s plan ≡ []
  unfolding sub_tree
  none_of_refused why e = empty _ _ (ap (λ o. is_done o && eqb (length s) (plan_count t) && ltb plan (plan_count t)) e)

  module _ (done : table_check t ≡ Done) where
    pub none_of_length : (length s ≡ plan_count t → ⊥) → sub_tree t s plan ≡ []
    unfolding sub_tree
    none_of_length n = simp (done, ne_eqb _ _ n)

    pub none_of_plan : plan_count t ≤ plan → sub_tree t s plan ≡ []
    unfolding sub_tree
    none_of_plan l = simp (done, le-ltb _ _ l, and-false)

    pub part_of :
        length s ≡ plan_count t → plan < plan_count t → (e : ℕ) → Ends t (plan_count t) plan e
        → sub_tree t s plan ≡ take (e - plan) (drop plan s)
    unfolding sub_tree
    part_of long l e ends =
        let passed = passes t done in
        let last = last_is t (plan_count t) (tree t passed).down (rule_at t passed.parents) plan e ends refl in
        let h = ends.here in
        let size : suc (last_descendant t plan) - plan ≡ e - plan = omega arith in
        simp (done, eq-eqb _ _ long, lt-ltb _ _ l) (ap (λ (k : ℕ). take k (drop plan s)) size)
