-- Document 02 (vi): a table of version 1 as one of version 2, and back; the checks of a move, what it answers and what it leaves. Assumes
-- nothing.
use Prim.Native.Nat.{ℕ, zero, suc, ◌+◌, ◌*◌, ◌/◌, ◌%◌}
use Rattle.std.specs.Prelude.{Bool, cond, ◌&&◌, List, [], ◌∷◌, ◌++◌, length, take, drop, eqb, ltb, Ok, Err}
use Rattle.std.proofs.Math.Bool.{not}
use Rattle.std.proofs.Math.Dec.{leb}
use Rattle.rules.specs.Lists.{some_below}
use Rattle.rules.specs.Bytes.{text}
use Rattle.rules.specs.Table.{version, plan_count, entry}
use Rattle.rules.specs.WaitFor.{node_count, node, is_leaf}
use Rattle.rules.specs.Answers.{◌and_then◌, refuse_if, wrong_mark, table_check, Outcome, Verdict}
use Rattle.rules.specs.declared.Refusal.TheVariants.{TableShort, TableMark, TableVersion, NodeKind, OutputShort}

module _ (t : List ℕ) where
  -- the header of t with another version
  abbrev pub header_as : ℕ → List ℕ
  header_as v = take 3 t ++ (v ∷ 0 ∷ []) ++ take 3 (drop 5 t)

  -- plan p as it is, but that byte 7, if the plan has children, is another
  abbrev pub plan_as : ℕ → ℕ → List ℕ
  plan_as p wait = take 7 (drop (8 + 8 * p) t) ++ (cond (is_leaf t p) (entry t p).wait wait ∷ [])

  -- the first k plans, with what `wait` says of each
  unfoldable pub plans_as : (ℕ → ℕ) → ℕ → List ℕ
  plans_as wait zero = []
  plans_as wait (suc p) = plans_as wait p ++ plan_as p (wait p)

  -- how many of the first k plans have children: so many nodes stand before that of plan k, where nodes stand in plan order
  unfoldable pub nodes_before : ℕ → ℕ
  nodes_before zero = 0
  nodes_before (suc p) = nodes_before p + cond (is_leaf t p) 0 1

  -- the node of plan p, if it has children: of kind 5, with m
  abbrev pub node_as : ℕ → List ℕ
  node_as p = cond (is_leaf t p) [] (5 ∷ (entry t p).wait ∷ 0 ∷ 0 ∷ [])

  -- those of the first k plans
  unfoldable pub nodes_as : ℕ → List ℕ
  nodes_as zero = []
  nodes_as (suc p) = nodes_as p ++ node_as p

  -- a table of version 1 in version 2: byte 7 of each plan with children is its node's number; the nodes stand behind theirs, in two bytes
  unfoldable pub in_version2 : List ℕ
  unfolding plans_as nodes_before nodes_as
  in_version2 =
      let n : ℕ = plan_count t in
      let k : ℕ = nodes_before n in
      header_as 2 ++ plans_as nodes_before n ++ (k % 256 ∷ k / 256 ∷ []) ++ nodes_as n

  -- a of the node with which plan p begins: its m, where the node is of kind 5
  abbrev pub number_waited : ℕ → ℕ
  number_waited p = (node t (entry t p).wait).a

  -- a table of version 2, whose nodes are of kind 5, in version 1: byte 7 of each plan with children is its node's m
  unfoldable pub in_version1 : List ℕ
  unfolding plans_as
  in_version1 = header_as 1 ++ plans_as number_waited (plan_count t)

  -- nodes stand in plan order: of two plans with children the later has the later node
  unfoldable pub in_plan_order : Bool
  unfolding some_below
  in_plan_order =
      not (some_below
      (λ q. not (is_leaf t q) && some_below (λ p. not (is_leaf t p) && leb (entry t q).wait (entry t p).wait) q)
      (plan_count t))

  -- 1, 2, and 3 of a table that is not of the version moved from
  unfoldable pub version_check : ℕ → Outcome
  version_check from =
      refuse_if (ltb (length t) 8) TableShort
      and_then refuse_if (wrong_mark (text "APT") t) TableMark
      and_then refuse_if (not (eqb (version t) from)) TableVersion

  -- 23: some node is of another kind than 5
  unfoldable pub other_kind : Bool
  unfolding some_below
  other_kind = some_below (λ i. not (eqb (node t i).kind 5)) (node_count t)

  -- 1 to 9 and 22, of a table that is moved from a version
  unfoldable pub check_from : ℕ → Outcome
  unfolding version_check table_check
  check_from from = version_check from and_then table_check t

  -- what is checked of a table before it is moved to version 2, and to version 1
  abbrev pub check_to2 : Outcome
  check_to2 = check_from 1

  unfoldable pub check_to1 : Outcome
  unfolding check_from other_kind
  check_to1 = check_from 2 and_then refuse_if other_kind NodeKind

-- 24: an output is too short for what is to be written
unfoldable pub room_check : List ℕ → List ℕ → Outcome
room_check written output = refuse_if (ltb (length output) (length written)) OutputShort

-- A move that passes its checks so far answers the number of bytes written.
unfoldable pub move_answer : Outcome → List ℕ → List ℕ → Verdict
unfolding room_check
move_answer check written output =
    elim (check and_then room_check written output) [ Ok tt ↦ Ok (length written) | Err why ↦ Err why ]

-- What it leaves in the output: bytes past the result stay as they were, and on a refusal all do.
unfoldable pub move_output : Outcome → List ℕ → List ℕ → List ℕ
unfolding room_check
move_output check written output =
    elim (check and_then room_check written output) [ Ok tt ↦ written ++ drop (length written) output | Err why ↦ output ]
