-- Rows that show the definitions of document 02 (vi): whole calls of both moves on small tables, the answer and every byte that is left,
-- and which tables stand in plan order; one list, and one theorem that all its rows hold. Assumes nothing.
use Rattle.std.specs.Prelude.{ℕ, zero, suc, ◌+◌, Bool, true, false, not, ◌&&◌, ◌≡◌, refl, List, [], ◌∷◌, ◌++◌, take, drop, eqb, Ok, Err}
use Rattle.rules.specs.Lists.{same, least_from, some_below, highest}
use Rattle.rules.specs.Table.{children_before, children, rank, is_or_is_above}
use Rattle.rules.specs.WaitFor.{first_nodes, asked_nodes, uses, owner_within, owner}
use Rattle.rules.specs.Answers.{placed, place, ◌and_then◌, refuse_if, refuse_at, unrooted, bad_parent, undefined_entry, unfit_entry, undefined_byte, unfit, too_many, stray_first, bad_bytes, bad_node, bad_rank, formulas_check, asks_too_many, bad_wait, header_check, plans_check, table_check, Verdict}
use Rattle.rules.specs.declared.Place.{Place}
use Rattle.versions.specs.Versions.{
  header_as,
  plans_as,
  nodes_before,
  nodes_as,
  in_version1,
  in_version2,
  in_plan_order,
  version_check,
  other_kind,
  check_from,
  check_to1,
  check_to2,
  room_check,
  move_answer,
  move_output,
}

-- a table of four plans, of a version: under the root plans 1 and 3, both named, under plan 1 plan 2, named; byte 7 of plans 0 and 1 as
-- given, and what stands behind the plans
tree : ℕ → ℕ → ℕ → List ℕ → List ℕ
tree version wait₀ wait₁ behind =
    (0x41 ∷ 0x50 ∷ 0x54 ∷ version ∷ 0x00 ∷ 0x04 ∷ 0x00 ∷ 0x00
    ∷ 0xFF ∷ 0xFF ∷ 0x01 ∷ 0x02 ∷ 0x11 ∷ 0x01 ∷ 0x10 ∷ wait₀
    ∷ 0x00 ∷ 0x00 ∷ 0x02 ∷ 0x05 ∷ 0x20 ∷ 0x20 ∷ 0x00 ∷ wait₁
    ∷ 0x01 ∷ 0x00 ∷ 0x00 ∷ 0x04 ∷ 0x00 ∷ 0x00 ∷ 0x00 ∷ 0x00
    ∷ 0x00 ∷ 0x00 ∷ 0x00 ∷ 0x04 ∷ 0x20 ∷ 0x00 ∷ 0x20 ∷ 0x00
    ∷ [])
    ++ behind

-- two nodes behind their number
two : List ℕ → List ℕ → List ℕ
two first second = (2 ∷ 0 ∷ []) ++ first ++ second

-- a node of kind 5
five : ℕ → List ℕ
five m = 5 ∷ m ∷ 0 ∷ 0 ∷ []

-- the root waits for both of its children, plan 1 for its one: in version 1, in version 2, and there with the nodes exchanged
in_one : List ℕ
unfolding tree
in_one = tree 1 2 1 []

in_two : List ℕ
unfolding tree two five
in_two = tree 2 0 1 (two (five 2) (five 1))

exchanged : List ℕ
unfolding tree two five
exchanged = tree 2 1 0 (two (five 1) (five 2))

-- a leaf alone, which has no node: in version 1, and in version 2
leaf : ℕ → List ℕ → List ℕ
leaf version behind =
    (0x41 ∷ 0x50 ∷ 0x54 ∷ version ∷ 0x00 ∷ 0x01 ∷ 0x00 ∷ 0x00
    ∷ 0xFF ∷ 0xFF ∷ 0x00 ∷ 0x00 ∷ 0x3F ∷ 0x00 ∷ 0x00 ∷ 0x00
    ∷ [])
    ++ behind

-- five plans: under the root plans 1 and 3, under plan 1 plan 2, under plan 3 plan 4, all named; so that a leaf stands between plans with
-- children, and bodies are 8, 4 and 1
branches : ℕ → ℕ → ℕ → ℕ → List ℕ → List ℕ
branches version wait₀ wait₁ wait₃ behind =
    (0x41 ∷ 0x50 ∷ 0x54 ∷ version ∷ 0x00 ∷ 0x05 ∷ 0x00 ∷ 0x00
    ∷ 0xFF ∷ 0xFF ∷ 0x08 ∷ 0x02 ∷ 0x11 ∷ 0x01 ∷ 0x10 ∷ wait₀
    ∷ 0x00 ∷ 0x00 ∷ 0x04 ∷ 0x05 ∷ 0x20 ∷ 0x20 ∷ 0x00 ∷ wait₁
    ∷ 0x01 ∷ 0x00 ∷ 0x00 ∷ 0x04 ∷ 0x00 ∷ 0x00 ∷ 0x00 ∷ 0x00
    ∷ 0x00 ∷ 0x00 ∷ 0x01 ∷ 0x06 ∷ 0x20 ∷ 0x00 ∷ 0x20 ∷ wait₃
    ∷ 0x03 ∷ 0x00 ∷ 0x00 ∷ 0x04 ∷ 0x08 ∷ 0x00 ∷ 0x00 ∷ 0x00
    ∷ [])
    ++ behind

-- plan 0 waits for 2, plan 1 for none, plan 3 for 1: in version 1, in version 2, and there with the last two nodes exchanged
branches_in_one : List ℕ
unfolding branches
branches_in_one = branches 1 2 0 1 []

branches_in_two : List ℕ
unfolding branches five
branches_in_two = branches 2 0 1 2 ((3 ∷ 0 ∷ []) ++ five 2 ++ five 0 ++ five 1)

branches_exchanged : List ℕ
unfolding branches five
branches_exchanged = branches 2 0 2 1 ((3 ∷ 0 ∷ []) ++ five 2 ++ five 1 ++ five 0)

-- nodes of kinds 4 and 5 only: the root's formula has nodes 0 to 2, that of plan 1 node 3
either_of : List ℕ
unfolding tree five
either_of = tree 2 0 3 ((4 ∷ 0 ∷ []) ++ (4 ∷ 1 ∷ 2 ∷ 0 ∷ []) ++ five 2 ++ five 1 ++ five 1)

-- an output of so many bytes, no two of them alike: 100, 101, ..
room : ℕ → List ℕ
room zero = []
room (suc k) = room k ++ ((100 + k) ∷ [])

pub data Row : Type 0 where
  -- a move to version 1 or 2 that is done: the table, the output's length, what is written and its length; all past it is as it was
  row_moved : ℕ → List ℕ → ℕ → List ℕ → ℕ → Row
  -- one that is refused: the table, the output's length, number and plan; the output is as it was
  row_refused : ℕ → List ℕ → ℕ → ℕ → ℕ → Row
  -- whether a table stands in plan order
  row_ordered : List ℕ → Bool → Row
  -- a header, and what it becomes in a version, also where no table that passes has it
  row_header : List ℕ → ℕ → List ℕ → Row

told : Verdict → Place
told (Ok k) = placed 0 k 0
told (Err why) = place why

-- a call of a move answers this number, step and plan, and leaves these bytes
calls : ℕ → List ℕ → ℕ → ℕ → ℕ → ℕ → List ℕ → Bool
unfolding told room
calls to t k number step plan left =
    let first : Bool = eqb to 1 in
    let to1 : Verdict = move_answer (check_to1 t) (in_version1 t) (room k) in
    let to2 : Verdict = move_answer (check_to2 t) (in_version2 t) (room k) in
    let answer : Place = told (elim first [ true ↦ to1 | false ↦ to2 ]) in
    eqb answer.number number && eqb answer.step step && eqb answer.plan plan
    && same left
    (elim first [ true ↦ move_output (check_to1 t) (in_version1 t) (room k) | false ↦ move_output (check_to2 t) (in_version2 t) (room k) ])

holds_in : Row → Bool
unfolding calls room
holds_in (row_moved to t k written size) = calls to t k 0 size 0 (written ++ drop size (room k))
holds_in (row_refused to t k number plan) = calls to t k number 0 plan (room k)
holds_in (row_ordered t true) = in_plan_order t
holds_in (row_ordered t false) = not (in_plan_order t)
holds_in (row_header t v header) = same header (header_as t v)

pub all_hold : List Row → Bool
unfolding holds_in
all_hold [] = true
all_hold (row ∷ rows) = holds_in row && all_hold rows

pub table : List Row
unfolding tree two five leaf in_one in_two exchanged branches branches_in_one branches_in_two branches_exchanged either_of
table =
    -- there: 40 bytes become 50; back: 40 again, also where the nodes are exchanged
    row_moved 2 in_one 50 in_two 50
    ∷ row_moved 1 in_two 40 in_one 40
    ∷ row_moved 1 exchanged 40 in_one 40
    -- bytes past the result stay
    ∷ row_moved 2 in_one 53 in_two 50
    ∷ row_moved 1 in_two 47 in_one 40
    -- a leaf has no node
    ∷ row_moved 2 (leaf 1 []) 18 (leaf 2 (0 ∷ 0 ∷ [])) 18
    ∷ row_moved 1 (leaf 2 (0 ∷ 0 ∷ [])) 16 (leaf 1 []) 16
    -- every byte of the header but the version's
    ∷ row_header (1 ∷ 2 ∷ 3 ∷ 4 ∷ 5 ∷ 0 ∷ 1 ∷ 6 ∷ []) 2 (1 ∷ 2 ∷ 3 ∷ 2 ∷ 0 ∷ 0 ∷ 1 ∷ 6 ∷ [])
    -- plan order
    ∷ row_ordered in_two true
    ∷ row_ordered exchanged false
    ∷ row_ordered (leaf 2 (0 ∷ 0 ∷ [])) true
    -- two plans with one node, which 22 refuses
    ∷ row_ordered (tree 2 0 0 (two (five 2) (five 1))) false
    -- 1 and 2 before 3
    ∷ row_refused 2 (take 7 in_two) 50 1 0
    ∷ row_refused 1 (0x42 ∷ drop 1 in_one) 50 2 0
    -- 3: the version is not the one moved from, and before 4
    ∷ row_refused 2 in_two 50 3 0
    ∷ row_refused 1 in_one 50 3 0
    ∷ row_refused 1 (tree 3 0 1 (two (five 2) (five 1))) 50 3 0
    ∷ row_refused 2 (0x41 ∷ 0x50 ∷ 0x54 ∷ 2 ∷ 0 ∷ 0 ∷ 0 ∷ 0 ∷ []) 50 3 0
    ∷ row_refused 1 (0x41 ∷ 0x50 ∷ 0x54 ∷ 2 ∷ 0 ∷ 0 ∷ 0 ∷ 0 ∷ []) 50 4 0
    -- the table's own: 5; 9 of plan 1; 22 of node 1, whose last byte is not 0, and 9 in version 2, before 23 and 24
    ∷ row_refused 2 (tree 1 2 1 (0 ∷ [])) 50 5 0
    ∷ row_refused 2 (tree 1 2 2 []) 0 9 1
    ∷ row_refused 1 (tree 2 0 1 (two (0 ∷ 1 ∷ 0 ∷ 0 ∷ []) (5 ∷ 1 ∷ 0 ∷ 1 ∷ []))) 0 22 1
    ∷ row_refused 1 (tree 2 0 1 (two (0 ∷ 1 ∷ 0 ∷ 0 ∷ []) (five 2))) 0 9 1
    -- 23: the first node, or the last, is of another kind; before 24
    ∷ row_refused 1 (tree 2 0 1 (two (0 ∷ 1 ∷ 0 ∷ 0 ∷ []) (five 1))) 50 23 0
    ∷ row_refused 1 (tree 2 0 1 (two (five 2) (0 ∷ 0 ∷ 0 ∷ 0 ∷ []))) 50 23 0
    ∷ row_refused 1 (tree 2 0 1 (two (five 2) (0 ∷ 0 ∷ 0 ∷ 0 ∷ []))) 0 23 0
    -- 24: one byte is missing
    ∷ row_refused 2 in_one 49 24 0
    ∷ row_refused 1 in_two 39 24 0
    ∷ row_refused 2 in_one 0 24 0
    -- no node is of kind 0, and plan 1 has node 3: 23, though they stand in plan order
    ∷ row_refused 1 either_of 50 23 0
    ∷ row_ordered either_of true
    -- a leaf stands between plans with children, and m 0, which asks for none, has a node too; the last two nodes are exchanged
    ∷ row_moved 2 branches_in_one 64 branches_in_two 62
    ∷ row_moved 1 branches_exchanged 48 branches_in_one 48
    ∷ row_ordered branches_in_two true
    ∷ row_ordered branches_exchanged false
    ∷ []

pub rows_hold : all_hold table ≡ true
unfolding
    all_hold table least_from some_below highest children_before children rank is_or_is_above first_nodes asked_nodes uses owner_within owner
    ◌and_then◌ refuse_if refuse_at unrooted bad_parent undefined_entry unfit_entry undefined_byte unfit too_many stray_first bad_bytes bad_node bad_rank
    formulas_check asks_too_many bad_wait header_check plans_check table_check
    plans_as nodes_before nodes_as in_version1 in_version2 in_plan_order version_check other_kind check_from check_to1 room_check move_answer move_output
rows_hold = refl
