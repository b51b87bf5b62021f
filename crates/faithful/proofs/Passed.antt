-- A table that passes its checks passes them in the other version too, and is alike there: the same plans but for byte 7, and each
-- wait-for means the same. Of the moved table only its form is used (Shape). Assumes nothing.
use Prim.Native.Nat.{ℕ, ◌+◌, ◌*◌, ◌<◌}
use native.Mathlib.Omega.{arith}
use mathlib.Core.Bool.{Bool, true, false, true≢false}
use mathlib.Core.Path.{◌≡◌, refl, sym, ◌∙◌, ap}
use mathlib.Core.List.{List}
use lib.ListN.{length}
use Rattle.rules.specs.Table.{plan_count, entry}
use Rattle.rules.specs.WaitFor.{asks, node, is_leaf}
use Rattle.rules.specs.Answers.{too_many, bad_wait, table_check, Done}
use Rattle.rules.specs.declared.Asks.TheVariants.{AtLeast}
use Rattle.rules.proofs.Tree.{Passes}
use Rattle.versions.specs.Versions.{nodes_before, number_waited}
use Rattle.alike.proofs.SamePlans.{plans_sym}
use Rattle.alike.proofs.Alike.{Alike, alike_sym}
use Rattle.faithful.proofs.Shape.{Moved, HasNodes, same_count, leaf_wait, parent_wait, same_leaf}
use Rattle.faithful.proofs.Passing.{MayMoveTo2, MayMoveTo1, is_first, size_1, size_2, room, leaf_zero}
use Rattle.faithful.proofs.OneKind.{number_asked, number_fits}
use Rattle.faithful.proofs.Numbers.{too_many_as, none_too_many, same_numbers_alike}
use Rattle.faithful.proofs.Checked.{plans, moved_passes}
use Rattle.faithful.proofs.Nodes.{first_is, formulas_pass, waits_pass}

-- To version 2.
module _ {t u : List ℕ} (may : MayMoveTo2 t) (m : Moved t u 2 (nodes_before t)) (has : HasNodes t u) where
  passed : Passes t
  passed = may.passed

  -- a table of version 1 that passes its checks passes them in version 2
  pub passes_2 : table_check u ≡ Done
  passes_2 =
      moved_passes m passed refl (omega (arith, size_2 u m.number, has.long, has.many, same_count m))
      (λ _. formulas_pass passed m has) (waits_pass passed m has may.first)

  -- and is alike there: the first node of each plan asks for what byte 7 did
  pub alike_2 : Alike t u
  alike_2 =
      same_numbers_alike
      record {
        first = may.first;
        second = m.number;
        same = plans m passed;
        leaves = leaf_zero passed;
        parents = λ p l parts.
            ap (λ (i : ℕ). asks (node u i)) (first_is passed m has p l parts) ∙ ap asks (has.nodes p l parts);
      }

-- To version 1.
module _ {t u : List ℕ} (may : MayMoveTo1 t) (m : Moved t u 1 (number_waited t)) (long : length u ≡ 8 + 8 * plan_count t) where
  was_passed : Passes t
  was_passed = may.passed

  zero_again : (p : ℕ) → p < plan_count t → is_leaf t p ≡ true → (entry u p).wait ≡ 0
  zero_again p l leaf = leaf_wait m (room was_passed) p l leaf ∙ leaf_zero was_passed p l leaf

  number_is : (p : ℕ) → p < plan_count t → is_leaf t p ≡ false → (entry u p).wait ≡ number_waited t p
  number_is = parent_wait m (room was_passed)

  inside : (p : ℕ) → p < plan_count u → p < plan_count t
  inside p l = rw (same_count m) at l

  as_in_t : (p : ℕ) → p < plan_count u → is_leaf t p ≡ is_leaf u p
  as_in_t p l = sym (same_leaf m (room was_passed) p (inside p l))

  -- 9
  waits_fit : (p : ℕ) → p < plan_count t → bad_wait u p ≡ false
  unfolding bad_wait
  waits_fit p l =
      rw (is_first u m.number) (too_many_as (plans m was_passed) p (entry u p).wait ∙ go (is_leaf t p) refl)
    where
      go : (b : Bool) → is_leaf t p ≡ b → too_many t p (entry u p).wait ≡ false
      go true leaf = none_too_many t p (entry u p).wait (zero_again p l leaf)
      go false parts = ap (too_many t p) (number_is p l parts) ∙ number_fits may p l parts

  -- a table of version 2 that passes its checks, all of whose nodes are of kind 5, passes them in version 1
  pub passes_1 : table_check u ≡ Done
  passes_1 =
      moved_passes m was_passed refl (omega (arith, size_1 u m.number, long, same_count m))
      (λ other. absurd (true≢false (sym (is_first u m.number) ∙ other))) waits_fit

  -- and is alike there: byte 7 of each plan says what its node did
  pub alike_1 : Alike t u
  alike_1 =
      alike_sym
      (same_numbers_alike
      record {
        first = m.number;
        second = may.second;
        same = plans_sym (plans m was_passed);
        leaves = λ p l leaf. zero_again p (inside p l) (as_in_t p l ∙ leaf);
        parents = λ p l parts.
            let was = as_in_t p l ∙ parts in
            number_asked may p (inside p l) was ∙ ap AtLeast (sym (number_is p (inside p l) was));
      })
