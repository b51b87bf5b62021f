-- The theorems of document 02 (vi), about tables that pass the checks of the call that moves them: `check_to2` of one from version 1 to 2,
-- `check_to1` of one from version 2 to 1. Assumes nothing.
use Prim.Native.Nat.{ℕ, ◌+◌, ◌*◌, ◌≤◌, ◌<◌}
use native.Mathlib.Omega.{arith}
use mathlib.Core.Path.{◌≡◌, sym, ap, ◌∙◌}
use mathlib.Core.Bool.{true}
use mathlib.Core.List.{List}
use lib.ListN.{length}
use Rattle.rules.specs.Table.{plan_count}
use Rattle.rules.specs.WaitFor.{node_count, node}
use Rattle.rules.specs.Answers.{table_check, Done}
use Rattle.rules.proofs.Tree.{tree}
use Rattle.versions.specs.Versions.{nodes_before, in_version2, number_waited, in_version1, in_plan_order, check_from, check_to2, check_to1}
use Rattle.versions.proofs.Laid.{length_1, length_2}
use Rattle.versions.proofs.Moves.{passed, moved_from, from_second}
use Rattle.alike.specs.SameCalls.{SameCalls}
use Rattle.alike.proofs.Theorems.{same_calls, same_calls_then}
use Rattle.faithful.proofs.Shape.{Moved, HasNodes}
use Rattle.faithful.proofs.MovedBytes.{moved_2, has_nodes, moved_1}
use Rattle.faithful.proofs.Passing.{
  MayMoveTo2,
  MayMoveTo1,
  room,
  few_nodes,
  may_2,
  may_1,
  to_2_passes,
  to_1_passes,
}
use Rattle.faithful.proofs.OneKind.{all_of_kind_5, kind_5}
use Rattle.faithful.proofs.ThereAndBack as bytes
use Rattle.faithful.proofs.Nodes.{of_kind_5}
use Rattle.faithful.proofs.Passed.{passes_2, alike_2, passes_1, alike_1}

-- From version 1 to 2.
module _ (t : List ℕ) (done : check_to2 t ≡ Done) where
  from_1 : MayMoveTo2 t
  from_1 = may_2 t done

  inside_1 : 8 + 8 * plan_count t ≤ length t
  inside_1 = room from_1.passed

  its_plans_2 : Moved t (in_version2 t) 2 (nodes_before t)
  its_plans_2 = moved_2 t inside_1

  -- The moved table has one node for each plan with children, in plan order: of kind 5, with the plan's m.
  pub one_node_each : HasNodes t (in_version2 t)
  one_node_each = has_nodes t inside_1

  pub moved_in_order : in_plan_order (in_version2 t) ≡ true
  moved_in_order = bytes.in_order_2 from_1

  -- It has at most as many bytes as include/asbru.h says (`ASBRU_MOST_MOVED`); one of version 1 has fewer.
  pub most_moved : length (in_version2 t) ≤ 3078
  most_moved = omega (arith, length_2 t inside_1, few_nodes from_1.passed, (tree t from_1.passed).small)

  -- It passes the table's checks, and those of the way back.
  pub still_passes_2 : table_check (in_version2 t) ≡ Done
  still_passes_2 = passes_2 from_1 its_plans_2 one_node_each

  pub back_allowed : check_to1 (in_version2 t) ≡ Done
  back_allowed =
      to_1_passes (in_version2 t) still_passes_2 its_plans_2.number
      (all_of_kind_5 (in_version2 t) (of_kind_5 from_1.passed its_plans_2 one_node_each))

  -- There and back gives the same bytes.
  pub there_and_back : in_version1 (in_version2 t) ≡ t
  there_and_back = bytes.there_and_back from_1

  -- Every call does the same under the moved table, and any record has the same verdicts.
  pub same_2 : SameCalls t (in_version2 t)
  same_2 = same_calls (alike_2 from_1 its_plans_2 one_node_each) (passed t 1 done) still_passes_2

-- From version 2 to 1: of tables that pass the other checks, exactly those whose every node is of kind 5.
pub allowed_of_kind_5 :
    (t : List ℕ) → check_from t 2 ≡ Done → ((i : ℕ) → i < node_count t → (node t i).kind ≡ 5) → check_to1 t ≡ Done
allowed_of_kind_5 t done kinds = to_1_passes t (passed t 2 done) (moved_from t 2 done) (all_of_kind_5 t kinds)

module _ (t : List ℕ) (done : check_to1 t ≡ Done) where
  from_2 : MayMoveTo1 t
  from_2 = may_1 t done

  inside_2 : 8 + 8 * plan_count t ≤ length t
  inside_2 = room from_2.passed

  its_plans_1 : Moved t (in_version1 t) 1 (number_waited t)
  its_plans_1 = moved_1 t inside_2

  pub only_of_kind_5 : (i : ℕ) → i < node_count t → (node t i).kind ≡ 5
  only_of_kind_5 = kind_5 from_2

  -- The moved table passes the table's checks, and those of the way back.
  pub still_passes_1 : table_check (in_version1 t) ≡ Done
  still_passes_1 = passes_1 from_2 its_plans_1 (length_1 t inside_2)

  pub there_allowed : check_to2 (in_version1 t) ≡ Done
  there_allowed = to_2_passes (in_version1 t) still_passes_1 its_plans_1.number

  -- Back and there gives the same bytes exactly when nodes stand in plan order.
  pub back_and_there : in_plan_order t ≡ true → in_version2 (in_version1 t) ≡ t
  back_and_there = bytes.back_and_there from_2

  pub only_in_order : in_version2 (in_version1 t) ≡ t → in_plan_order t ≡ true
  only_in_order same = ap in_plan_order (sym same) ∙ moved_in_order (in_version1 t) there_allowed

  -- Every call does the same under the moved table, and any record has the same verdicts.
  pub same_1 : SameCalls t (in_version1 t)
  same_1 = same_calls (alike_1 from_2 its_plans_1 (length_1 t inside_2)) (passed t 2 (from_second t done)) still_passes_1

-- Always the same steps: also where back and there gives other bytes. There and back alike.
pub same_back : (t : List ℕ) → check_to1 t ≡ Done → SameCalls t (in_version2 (in_version1 t))
same_back t done = same_calls_then (same_1 t done) (same_2 (in_version1 t) (there_allowed t done))

pub same_there_and_back : (t : List ℕ) → check_to2 t ≡ Done → SameCalls t (in_version1 (in_version2 t))
same_there_and_back t done = same_calls_then (same_2 t done) (same_1 (in_version2 t) (back_allowed t done))
