-- Rows that show the definitions of document 02 (viii): what a call for the figure answers, runs state by state until they rest, and runs
-- that go round and never do; one list, and one theorem that all its rows hold. A run goes through the whole call, by both rules. Assumes
-- nothing.
use Rattle.std.specs.Prelude.{ℕ, zero, suc, ◌+◌, ◌/◌, ◌%◌, ◌^◌, Bool, true, false, not, ◌&&◌, ◌≡◌, refl, List, [], ◌∷◌, ◌++◌, map, length, take, drop, eqb, Ok, Err, Some, None}
use Rattle.std.specs.Bool.{beq}
use Rattle.rules.specs.Lists.{all, same, least_from, some_below, highest}
use Rattle.rules.specs.States.{state_at}
use Rattle.rules.specs.Table.{plan_count, children_before, children, rank, is_or_is_above}
use Rattle.rules.specs.WaitFor.{formula_holds, wait_for, first_nodes, asked_nodes, uses, owner_within, owner}
use Rattle.rules.specs.Words.{holds, satisfiable}
use Rattle.rules.specs.Step.{
  move_by,
  too_many_lost,
  all_ended,
  children_complete,
  first_not_done,
  gate_open,
  may_activate,
  fallback,
  ready_or,
  chosen,
  due,
  orders,
  step_first,
  step_by,
  step_under,
  step,
}
use Rattle.rules.specs.HandedIn.{bad_state}
use Rattle.rules.specs.Rest.{after, least_rest}
use Rattle.rules.specs.Answers.{place, is_done, ◌and_then◌, refuse_if, refuse_at, undefined_entry, unfit_entry, bad_bytes, wrong_word, unrooted, bad_parent, undefined_byte, unfit, too_many, stray_first, bad_node, bad_rank, formulas_check, asks_too_many, bad_wait, header_check, plans_check, table_check, bad_word, lent_check, rule_check, call_check, run_answer, Rest, Figure}
use Rattle.demands.specs.Bound.{most_steps, nobody_retries, both_hold, nobody_holds_both, bound_check, bound_answer}

-- Tables: a version, a number of plans and their entries. A root with this body, flags, conditions and m; a plan with this parent and the
-- same; a leaf of the root, not named, with these conditions, of which some are manual and some overridable.
abbrev pub table_of : ℕ → ℕ → List ℕ → List ℕ
table_of version n entries = 0x41 ∷ 0x50 ∷ 0x54 ∷ version ∷ 0 ∷ n ∷ 0 ∷ 0 ∷ entries

abbrev pub root : ℕ → ℕ → ℕ → ℕ → List ℕ
root body flags present m = 0xFF ∷ 0xFF ∷ body ∷ flags ∷ present ∷ 0 ∷ 0 ∷ m ∷ []

abbrev pub under : ℕ → ℕ → ℕ → ℕ → ℕ → List ℕ
under parent body flags present m = parent ∷ 0 ∷ body ∷ flags ∷ present ∷ 0 ∷ 0 ∷ m ∷ []

abbrev leaf : ℕ → ℕ → ℕ → List ℕ
leaf present manual overridable = 0 ∷ 0 ∷ 0 ∷ 0 ∷ present ∷ manual ∷ overridable ∷ 0 ∷ []

-- words, and the states of n plans as document 01 writes them
abbrev bytes : ℕ → List ℕ
bytes x = x % 256 ∷ x / 256 % 256 ∷ x / 65536 % 256 ∷ x / 2 ^ 24 ∷ []

abbrev pub words : List ℕ → List ℕ
words [] = []
words (x ∷ xs) = bytes x ++ words xs

abbrev pub states : ℕ → ℕ → List ℕ
states zero digits = []
states (suc k) digits = digits / 10 ^ k % 10 ∷ states k digits

-- One plan that can be suspended, and whose reactivate is absent, so that it holds; it is told to suspend.
abbrev pub swing : List ℕ
swing = table_of 1 1 (root 0 0 4 0)

abbrev pub pushed : List ℕ
pushed = words (4 ∷ [])

-- A plan with retry-aborted and a child that is told to abort; the plan completes when it is told to.
abbrev pub retrying : List ℕ
retrying = table_of 1 2 (root 4 1 0x20 0 ++ under 0 0 0 0x10 0)

abbrev pub aborting : List ℕ
aborting = words (0 ∷ 16 ∷ [])

-- The root waits for plan 2. Plan 1 has suspend and reactivate and is told to suspend, plan 2 is told to complete.
abbrev six_moves : List ℕ
six_moves = table_of 1 3 (root 4 0 0 1 ++ under 0 0 0 12 0 ++ under 0 0 4 0x20 0)

-- Four plans without conditions, each of which waits for the next.
abbrev chain : List ℕ
chain = table_of 1 4 (root 4 0 0 1 ++ under 0 4 4 0 1 ++ under 1 4 4 0 1 ++ under 2 0 4 0 0)

-- A root with a leaf whose suspend and reactivate are present, manual or overridable as given.
abbrev nurse : ℕ → ℕ → List ℕ
nurse manual overridable = table_of 1 2 (root 4 0 0 0 ++ leaf 12 manual overridable)

-- The same in version 2, whose root waits for at least no named child.
abbrev in_version2 : List ℕ
in_version2 = table_of 2 2 (root 4 0 0 0 ++ leaf 12 0 0) ++ 1 ∷ 0 ∷ 5 ∷ 0 ∷ 0 ∷ 0 ∷ []

-- In version 2 too, a root that waits for its named child. Read as the entry of one plan more, its node would have retry-aborted.
abbrev waits_for_one : List ℕ
waits_for_one = table_of 2 2 (root 4 0 0 0 ++ under 0 0 4 0 0) ++ 1 ∷ 0 ∷ 5 ∷ 1 ∷ 0 ∷ 0 ∷ []

-- An any-order root with two children; the first has these flags and conditions, and a leaf.
abbrev between : ℕ → ℕ → List ℕ
between flags present = table_of 1 4 (root 3 0 0 0 ++ under 0 4 flags present 0 ++ under 1 0 0 0 0 ++ under 0 0 0 0 0)

-- from states s by steps to each of these states, one after the other, each other than the one before
abbrev pub path : ℕ → List ℕ → List ℕ → List ℕ → List (List ℕ) → Bool
path rule t w s [] = true
path rule t w s (x ∷ xs) = same (step rule t s w) x && (not (same x s) && path rule t w x xs)

is_rested : ℕ → Rest → Bool
is_rested k (Ok (Some j)) = eqb j k
is_rested k (Ok None) = false
is_rested k (Err why) = false

pub data Row : Type 0 where
  -- a call that answers a figure: table, words, figure
  row_within : List ℕ → List ℕ → ℕ → Row
  -- a call that answers that none is known, with each premise
  row_unknown : List ℕ → List ℕ → Bool → Bool → Row
  -- a call that is refused: table, words, number, plan
  row_refused : List ℕ → List ℕ → ℕ → ℕ → Row
  -- a run with a budget of six steps for each plan: table, words, the states that it starts from and those after each step until it rests
  row_runs : List ℕ → List ℕ → ℕ → List ℕ → Row
  -- a run that goes round: table, words, the states that it starts from, those after each step, and then the first again
  row_rounds : List ℕ → List ℕ → ℕ → List ℕ → Row

-- rested, as the run says, in the last of these states; the room for causes is as long as the states, so these stand for it
abbrev runs : List ℕ → List ℕ → List ℕ → List (List ℕ) → ℕ → Bool
runs t w s shown rule =
    path rule t w s shown && is_rested (length shown) (run_answer rule t s w s (most_steps (plan_count t)))

abbrev pub rounds : List ℕ → List ℕ → List ℕ → List (List ℕ) → ℕ → Bool
rounds t w s shown rule = is_done (call_check rule t s w s) && path rule t w s (shown ++ (s ∷ []))

is_within : ℕ → Figure → Bool
is_within k (Ok (Some j)) = eqb j k
is_within k (Ok None) = false
is_within k (Err why) = false

is_unknown : Figure → Bool
is_unknown (Ok (Some j)) = false
is_unknown (Ok None) = true
is_unknown (Err why) = false

is_refused : ℕ → ℕ → Figure → Bool
is_refused number plan (Ok (Some j)) = false
is_refused number plan (Ok None) = false
is_refused number plan (Err why) =
    eqb (place why).number number && eqb (place why).step 0 && eqb (place why).plan plan

unfoldable pub holds_in : Row → Bool
unfolding is_rested is_within is_unknown is_refused bound_answer
holds_in (row_within t w k) = is_within k (bound_answer t w)
holds_in (row_unknown t w once apart) =
    is_unknown (bound_answer t w) && beq (nobody_retries t) once && beq (nobody_holds_both t w) apart
holds_in (row_refused t w number plan) = is_refused number plan (bound_answer t w)
holds_in (row_runs t w from shown) =
    let n : ℕ = plan_count t in
    all (runs t w (states n from) (map (states n) shown)) (1 ∷ 2 ∷ [])
holds_in (row_rounds t w from shown) =
    let n : ℕ = plan_count t in
    all (rounds t w (states n from) (map (states n) shown)) (1 ∷ 2 ∷ [])

unfoldable pub all_hold : List Row → Bool
unfolding holds_in
all_hold [] = true
all_hold (row ∷ rows) = holds_in row && all_hold rows

-- the two that move for ever
unfoldable pub circling : List Row
circling =
    row_rounds swing pushed 4 (5 ∷ [])
    ∷ row_rounds retrying aborting 41 (42 ∷ 43 ∷ 44 ∷ 47 ∷ [])
    ∷ []

resting : List Row
resting =
    -- plan 1 moves six times
    row_runs six_moves (words (0 ∷ 4 ∷ 32 ∷ [])) 000
    (100 ∷ 200 ∷ 300 ∷ 400 ∷ 411 ∷ 422 ∷ 433 ∷ 444 ∷ 456 ∷ 676 ∷ [])
    -- five steps for each plan
    ∷ row_runs chain (words (0 ∷ 0 ∷ 0 ∷ 0 ∷ [])) 0000
    (1000 ∷ 2000 ∷ 3000 ∷ 4000 ∷ 4100 ∷ 4200 ∷ 4300 ∷ 4400 ∷ 4410 ∷ 4420 ∷ 4430 ∷ 4440 ∷ 4441 ∷ 4442 ∷ 4443 ∷ 4444
    ∷ 4446 ∷ 4466 ∷ 4666 ∷ 6666 ∷ [])
    ∷ []

answers : List Row
answers =
    -- the figure: of three plans, of four, of one whose reactivate is absent but which is not told to suspend, of version 2
    row_within six_moves (words (0 ∷ 4 ∷ 32 ∷ [])) 18
    ∷ row_within chain (words (0 ∷ 0 ∷ 0 ∷ 0 ∷ [])) 24
    ∷ row_within swing (words (0 ∷ [])) 6
    ∷ row_within in_version2 (words (0 ∷ 4 ∷ [])) 12
    ∷ row_within waits_for_one (words (0 ∷ 0 ∷ [])) 12
    -- suspend alone, reactivate alone, both; a condition of another plan is none of this one's
    ∷ row_within (nurse 0 0) (words (0 ∷ 4 ∷ [])) 12
    ∷ row_within (nurse 0 0) (words (0 ∷ 8 ∷ [])) 12
    ∷ row_unknown (nurse 0 0) (words (0 ∷ 12 ∷ [])) true false
    ∷ row_within (nurse 0 0) (words (4 ∷ 8 ∷ [])) 12
    -- manual: with and without its trigger. Overridable: overridden, and not
    ∷ row_within (nurse 4 0) (words (0 ∷ 12 ∷ [])) 12
    ∷ row_unknown (nurse 4 0) (words (0 ∷ (12 + 2 ^ 10) ∷ [])) true false
    ∷ row_within (nurse 8 0) (words (0 ∷ 12 ∷ [])) 12
    ∷ row_unknown (nurse 8 0) (words (0 ∷ (12 + 2 ^ 11) ∷ [])) true false
    ∷ row_unknown (nurse 0 4) (words (0 ∷ (8 + 2 ^ 16) ∷ [])) true false
    ∷ row_unknown (nurse 0 8) (words (0 ∷ (4 + 2 ^ 17) ∷ [])) true false
    ∷ row_within (nurse 0 4) (words (0 ∷ 8 ∷ [])) 12
    ∷ row_within (nurse 0 8) (words (0 ∷ 4 ∷ [])) 12
    -- each premise broken alone, by the root and by another plan, and both
    ∷ row_unknown swing pushed true false
    ∷ row_unknown retrying aborting false true
    ∷ row_unknown (between 0 4) (words (0 ∷ 4 ∷ 0 ∷ 0 ∷ [])) true false
    ∷ row_unknown (between 1 0) (words (0 ∷ 0 ∷ 0 ∷ 0 ∷ [])) false true
    ∷ row_unknown (between 1 4) (words (0 ∷ 4 ∷ 0 ∷ 0 ∷ [])) false false
    ∷ row_within (between 0 4) (words (0 ∷ 0 ∷ 0 ∷ 0 ∷ [])) 24
    -- the other two flags are no premise
    ∷ row_within (between 6 0) (words (0 ∷ 0 ∷ 0 ∷ 0 ∷ [])) 24
    -- the table's refusals before those of the words, 10 before 12; words too short and too long; an unused bit; picks as in a step
    ∷ row_refused (take 7 chain) [] 1 0
    ∷ row_refused (0 ∷ drop 1 chain) [] 2 0
    ∷ row_refused (take 25 in_version2) [] 5 0
    ∷ row_refused (take 26 in_version2 ++ 6 ∷ drop 27 in_version2) [] 22 0
    ∷ row_refused (nurse 0 16) [] 8 1
    ∷ row_refused swing [] 10 0
    ∷ row_refused swing (words (2 ^ 31 ∷ 0 ∷ [])) 10 0
    ∷ row_refused (nurse 0 0) (words (0 ∷ 2 ^ 30 ∷ [])) 12 1
    ∷ row_within (between 0 0) (words (2 ^ 24 ∷ 0 ∷ 0 ∷ 0 ∷ [])) 24
    ∷ row_refused (between 0 0) (words (2 ^ 25 ∷ 0 ∷ 0 ∷ 0 ∷ [])) 12 0
    ∷ []

unfoldable pub table : List Row
unfolding circling resting answers
table = circling ++ resting ++ answers

pub rows_hold : all_hold table ≡ true
unfolding
    all_hold table least_from some_below highest state_at children_before children rank is_or_is_above formula_holds wait_for first_nodes asked_nodes
    uses owner_within owner holds satisfiable move_by too_many_lost all_ended children_complete first_not_done gate_open may_activate fallback ready_or
    chosen due orders step_first step_by step_under step bad_state after least_rest undefined_entry unfit_entry bad_bytes wrong_word unrooted
    bad_parent undefined_byte unfit too_many stray_first bad_node bad_rank formulas_check asks_too_many bad_wait ◌and_then◌ refuse_if refuse_at
    header_check plans_check table_check bad_word lent_check rule_check call_check run_answer nobody_retries both_hold nobody_holds_both bound_check
rows_hold = refl
