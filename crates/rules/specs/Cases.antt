-- Document 01, 'Small protocols to try': the lines marked P, in their order, then some that are not, then rows of our own, with those of
-- document 02 (i) to (iii), (v), (vii) and (ix) among them; one table, and one theorem that all its rows hold. A row of a step or a run
-- goes through the whole call, checks 17, 1 to 12 and 22 included, by each rule that its first column names. Assumes nothing.
use Rattle.std.specs.Prelude.{ℕ, zero, suc, ◌+◌, ◌-◌, ◌*◌, ◌/◌, ◌%◌, ◌^◌, Bool, true, false, cond, ◌&&◌, ◌≡◌, refl, List, [], ◌∷◌, ◌++◌, map, take, drop, replicate, eqb, Ok, Err, Some, None}
use Prim.Native.String.{String}
use Rattle.rules.specs.Lists.{all, same, least_from, some_below, map_below, highest}
use Rattle.rules.specs.Bytes.{is_set, text}
use Rattle.rules.specs.States.{state_at}
use Rattle.rules.specs.Table.{plan_count, children_before, children, rank, is_or_is_above}
use Rattle.rules.specs.WaitFor.{formula_holds, wait_for, first_nodes, asked_nodes, uses, owner_within, owner}
use Rattle.rules.specs.Words.{holds, satisfiable, with_pattern}
use Rattle.rules.specs.Step.{
  move_by,
  too_many_lost,
  all_ended,
  children_complete,
  first_not_done,
  gate_open,
  may_activate,
  fallback,
  ready_or,
  chosen,
  due,
  orders,
  step_first,
  step_by,
  step_under,
  step,
  causes_to,
  causes,
}
use Rattle.rules.specs.HandedIn.{bad_state}
use Rattle.rules.specs.Rest.{after, least_rest, last_causes}
use Rattle.rules.specs.Answers.{place, is_done, ◌and_then◌, refuse_if, refuse_at, bad_parent, undefined_entry, unfit_entry, undefined_byte, unfit, too_many, stray_first, bad_bytes, bad_node, bad_rank, formulas_check, asks_too_many, bad_wait, header_check, rule_check, table_check, table_verdict, bad_word, bad_record_word, call_check, step_answer, step_states, step_causes, run_answer, run_states, run_causes, form_check, words_check, record_check, Outcome, Verdict, Rest}
use Rattle.rules.specs.SubTree.{last_descendant, sub_tree}
use Rattle.rules.specs.Program.{decimal_to, line, table_length}
use Rattle.rules.specs.declared.Condition.TheVariants.{Filter, Setup, Suspend, Reactivate, Abort, Complete}
use Rattle.rules.specs.declared.Pattern.{Pattern}
use Rattle.rules.specs.declared.Pattern.TheVariants.{Of, If}
use Rattle.rules.specs.declared.Refusal.{Refusal}
use Rattle.rules.specs.declared.Refusal.TheVariants.{Unexplained}

-- T1, with the root's body, flags, conditions and m, and plan 1's conditions, as given
unfoldable pub T1Of : ℕ → ℕ → ℕ → ℕ → ℕ → List ℕ
T1Of body flags present m present₁ =
    0x41 ∷ 0x50 ∷ 0x54 ∷ 0x01 ∷ 0x00 ∷ 0x03 ∷ 0x00 ∷ 0x00
    ∷ 0xFF ∷ 0xFF ∷ body ∷ flags ∷ present ∷ 0x00 ∷ 0x00 ∷ m
    ∷ 0x00 ∷ 0x00 ∷ 0x00 ∷ 0x04 ∷ present₁ ∷ 0x00 ∷ 0x00 ∷ 0x00
    ∷ 0x00 ∷ 0x00 ∷ 0x00 ∷ 0x04 ∷ 0x20 ∷ 0x00 ∷ 0x00 ∷ 0x00
    ∷ []

-- its root is any-order
T1With : ℕ → ℕ → ℕ → ℕ → List ℕ
unfolding T1Of
T1With flags present m present₁ = T1Of 3 flags present m present₁

T1 : List ℕ
unfolding T1With
T1 = T1With 0 0 2 0x20

-- the same tree under other bodies: a sequential root with flags and m as given; a parallel and an unordered one
sequential : ℕ → ℕ → List ℕ
unfolding T1Of
sequential flags m = T1Of 1 flags 0 m 0x20

parallel : List ℕ
unfolding T1Of
parallel = T1Of 2 0 0 1 0x20

unordered : List ℕ
unfolding T1Of
unordered = T1Of 4 0 0 1 0x20

-- a table of n plans, the root's body, flags and conditions as given, and then the other plans' entries
table_of : ℕ → ℕ → ℕ → ℕ → List ℕ → List ℕ
table_of n body flags present others =
    0x41 ∷ 0x50 ∷ 0x54 ∷ 0x01 ∷ 0x00 ∷ n ∷ 0x00 ∷ 0x00
    ∷ 0xFF ∷ 0xFF ∷ body ∷ flags ∷ present ∷ 0x00 ∷ 0x00 ∷ 0x00
    ∷ others

-- the entry of a plan with this parent, body, flags, conditions and m, before others; and one without flags and m
entry_with : ℕ → ℕ → ℕ → ℕ → ℕ → List ℕ → List ℕ
entry_with parent body flags present m others = parent ∷ 0x00 ∷ body ∷ flags ∷ present ∷ 0x00 ∷ 0x00 ∷ m ∷ others

entry_under : ℕ → ℕ → ℕ → List ℕ → List ℕ
unfolding entry_with
entry_under parent body present others = entry_with parent body 0 present 0 others

-- a chain of three: a root with retry-aborted and complete present, a sequential plan, a leaf
chain : List ℕ
unfolding table_of entry_under
chain = table_of 3 4 1 0x20 (entry_under 0 1 0 (entry_under 1 0 0 []))

-- a chain of three with flags as given, in which plan 1 waits for the leaf; all complete when told to
waiting : ℕ → ℕ → List ℕ
unfolding table_of entry_with
waiting flags flags₁ = table_of 3 4 flags 0x20 (entry_with 0 1 flags₁ 0x20 1 (entry_with 1 0 4 0x20 0 []))

-- k leaves with these conditions under a root, and an unordered root with k leaves
leaves : ℕ → ℕ → List ℕ
unfolding entry_under
leaves present zero = []
leaves present (suc k) = entry_under 0 0 present (leaves present k)

star : ℕ → List ℕ
unfolding table_of leaves
star k = table_of (suc k) 4 0 0 (leaves 0 k)

-- a root of the body, its flags as given, with two leaves, and with three; all complete when told to
two : ℕ → ℕ → List ℕ
unfolding table_of leaves
two body flags = table_of 3 body flags 0x20 (leaves 0x20 2)

three : ℕ → List ℕ
unfolding table_of leaves
three body = table_of 4 body 0 0x20 (leaves 0x20 3)

-- document 02 (vii): an any-order root with three leaves, which have these flags (4: named); all complete when told to
ranked : ℕ → ℕ → ℕ → List ℕ
unfolding table_of entry_with
ranked f₁ f₂ f₃ = table_of 4 3 0 0x20 (entry_with 0 0 f₁ 0x20 0 (entry_with 0 0 f₂ 0x20 0 (entry_with 0 0 f₃ 0x20 0 [])))

-- an unordered root; its children are plan 1 and a leaf, plan 7, both named; plan 1 is any-order with m 1, retry-aborted and
-- wait-for-optional; its children are plans 2, 4 and 5, of which the last is named, and the first and the last have a leaf each
nested : List ℕ
unfolding table_of entry_with entry_under
nested =
    let under1 : List ℕ → List ℕ =
    (λ others. entry_under 1 4 0 (entry_under 2 0 0 (entry_under 1 0 0 (entry_with 1 4 4 0 0 (entry_under 5 0 0 others))))) in
    table_of 8 4 0 0x20 (entry_with 0 3 7 0x20 1 (under1 (entry_with 0 0 4 0 0 [])))

-- document 02 (v): a table whose plans' bytes 7 name first nodes, with a number of nodes and their bytes; one node; T1 with these flags
-- and nodes; a root whose formula begins with node 0, three leaves under it, the first two named; a root with two children of which the
-- first has one, their formulas beginning with nodes 0 and 1
in_version2 : List ℕ → ℕ → List ℕ → List ℕ
in_version2 t k nodes = take 3 t ++ 2 ∷ drop 4 t ++ k % 256 ∷ k / 256 ∷ nodes

node : ℕ → ℕ → ℕ → List ℕ
node kind a b = kind ∷ a ∷ b ∷ 0 ∷ []

T1Waits : ℕ → ℕ → List ℕ → List ℕ
unfolding T1With in_version2
T1Waits flags k nodes = in_version2 (T1With flags 0 0 32) k nodes

trio : ℕ → List ℕ → List ℕ
unfolding table_of entry_with in_version2
trio k nodes = in_version2 (table_of 4 4 0 0x20 (entry_with 0 0 4 0 0 (entry_with 0 0 4 0 0 (entry_with 0 0 0 0 0 [])))) k nodes

uneven : ℕ → List ℕ → List ℕ
unfolding table_of entry_with in_version2
uneven k nodes = in_version2 (table_of 4 4 0 0x20 (entry_with 0 1 0 0 1 (entry_with 1 0 4 0 0 (entry_with 0 0 0 0 0 [])))) k nodes

-- the same, with the first nodes of the two formulas exchanged
crossing : ℕ → List ℕ → List ℕ
unfolding table_of entry_with in_version2
crossing k nodes =
    let t : List ℕ = table_of 4 4 0 0x20 (entry_with 0 1 0 0 0 (entry_with 1 0 4 0 0 (entry_with 0 0 0 0 0 []))) in
    in_version2 (take 15 t ++ 1 ∷ drop 16 t) k nodes

-- two leaves, and a child of the first behind the second: its parent is no ancestor of the plan before it
crossed : List ℕ
unfolding table_of entry_under
crossed = table_of 4 4 0 0 (entry_under 0 4 0 (entry_under 0 0 0 (entry_under 1 0 0 [])))

-- three states as document 01 writes them (000 is the number 0), k states, and three words
unfoldable pub states : ℕ → List ℕ
states n = n / 100 ∷ n / 10 % 10 ∷ n % 10 ∷ []

many_states : ℕ → ℕ → List ℕ
many_states zero n = []
many_states (suc k) n = n / 10 ^ k % 10 ∷ many_states k n

bytes : ℕ → List ℕ
bytes x = x % 256 ∷ x / 256 % 256 ∷ x / 65536 % 256 ∷ x / 2 ^ 24 ∷ []

words : ℕ → ℕ → ℕ → List ℕ
unfolding bytes
words x y z = bytes x ++ bytes y ++ bytes z

idle : List ℕ
unfolding words
idle = words 0 0 0

-- what stands in the room for three causes before a call: none of them
blank : List ℕ
blank = 9 ∷ 9 ∷ 9 ∷ []

-- The rules by which a row stands: its first column, where a rule has a say.
abbrev both : List ℕ
both = 1 ∷ 2 ∷ []

abbrev rule1 : List ℕ
rule1 = 1 ∷ []

abbrev rule2 : List ℕ
rule2 = 2 ∷ []

pub data Row : Type 0 where
  -- one step that is done: rules, table, states, words, new states
  row_step : List ℕ → List ℕ → ℕ → List ℕ → ℕ → Row
  -- one step that is done, by both rules: a table, its states, a plan and its pick (the other words are 0), new states
  row_chooses : List ℕ → ℕ → ℕ → ℕ → ℕ → Row
  -- a run from the states under a budget, behind rules and table: rested after so many steps, with these states
  row_rests : List ℕ → List ℕ → ℕ → ℕ → ℕ → ℕ → Row
  -- a run from the states under a budget: still moving, with these states
  row_moves : List ℕ → List ℕ → ℕ → ℕ → ℕ → Row
  -- a table accepted with so many plans
  row_accepts : List ℕ → ℕ → Row
  -- a step and a run refused, with states and causes left as they were: rules, table, states, words, number, plan
  row_refuses : List ℕ → List ℕ → ℕ → List ℕ → ℕ → ℕ → Row
  -- states, words and room for causes refused by 10 under a table, by the step and the run, all left as they were
  row_lengths : List ℕ → List ℕ → List ℕ → List ℕ → Row
  -- document 02 (ix): one step that is done: rules, table, states, words, new states, causes
  row_why : List ℕ → List ℕ → ℕ → List ℕ → ℕ → ℕ → Row
  -- a run from the states under words and a budget: the states and the causes that it leaves, behind rules and table
  row_last : List ℕ → List ℕ → ℕ → List ℕ → ℕ → ℕ → ℕ → Row
  -- the part of the states that is a plan's sub tree
  row_shows : List ℕ → ℕ → ℕ → List ℕ → Row
  -- the program's line for a verdict on a table of so many plans
  row_prints : ℕ → Verdict → String → Row
  -- a table of a root and three leaves that passes, and whether wait-for of the root holds (1) or not (0) of each set of its children:
  -- none, 0, 1, 0 and 1, 2, 0 and 2, 1 and 2, all
  row_waits : List ℕ → String → Row
  -- the same, of a table whose checks would take long and are not asked for
  row_deep : List ℕ → String → Row
  -- how many bytes of the program's input are its table
  row_ends : List ℕ → ℕ → Row
  -- a record under a table, by both rules: the number that its form is refused with, or 0
  row_form : List ℕ → List ℕ → ℕ → Row
  -- the words of a step of a record, here counted from 0: the number, step and plan that they are refused with, or 0
  row_words : List ℕ → List ℕ → ℕ → ℕ → ℕ → ℕ → Row
  -- a pattern, satisfied and satisfiable or not, put into a word
  row_puts : Pattern → Bool → Bool → ℕ → ℕ → Row

is_rested : ℕ → Rest → Bool
is_rested k (Ok (Some j)) = eqb j k
is_rested k (Ok None) = false
is_rested k (Err why) = false

is_moving : Rest → Bool
is_moving (Ok (Some j)) = false
is_moving (Ok None) = true
is_moving (Err why) = false

is_accepted : ℕ → Verdict → Bool
is_accepted n (Ok k) = eqb k n
is_accepted n (Err why) = false

is_placed : ℕ → ℕ → Refusal → Bool
is_placed number plan why = eqb (place why).number number && eqb (place why).step 0 && eqb (place why).plan plan

is_refused : ℕ → ℕ → Outcome → Bool
unfolding is_placed
is_refused number plan (Ok tt) = false
is_refused number plan (Err why) = is_placed number plan why

is_refused_run : ℕ → ℕ → Rest → Bool
unfolding is_placed
is_refused_run number plan (Ok (Some k)) = false
is_refused_run number plan (Ok None) = false
is_refused_run number plan (Err why) = is_placed number plan why

-- an outcome is told as number, step and plan, or 0
is_told : ℕ → ℕ → ℕ → Outcome → Bool
is_told number step plan (Ok tt) = eqb number 0
is_told number step plan (Err why) = eqb (place why).number number && eqb (place why).step step && eqb (place why).plan plan

holds_in : Row → Bool
unfolding states many_states bytes words idle blank is_rested is_moving is_accepted is_refused is_refused_run is_told
holds_in (row_step rules t from w to) =
    all (λ rule. is_done (step_answer rule t (states from) w blank) && same (step_states rule t (states from) w blank) (states to)) rules
holds_in (row_chooses t from q pick to) =
    let n : ℕ = plan_count t in
    let s : List ℕ = many_states n from in
    let w : List ℕ = replicate (4 * q) 0 ++ bytes (pick * 2 ^ 24) ++ replicate (4 * (n - 1 - q)) 0 in
    let c : List ℕ = replicate n 9 in
    all (λ rule. is_done (step_answer rule t s w c) && same (step_states rule t s w c) (many_states n to)) both
holds_in (row_rests rules t from budget k to) =
    let s : List ℕ = states from in
    all (λ rule. is_rested k (run_answer rule t s idle blank budget) && same (run_states rule t s idle blank budget) (states to)) rules
holds_in (row_moves rules t from budget to) =
    let s : List ℕ = states from in
    all (λ rule. is_moving (run_answer rule t s idle blank budget) && same (run_states rule t s idle blank budget) (states to)) rules
holds_in (row_accepts t n) = is_accepted n (table_verdict t)
holds_in (row_refuses rules t from w number plan) =
    let s : List ℕ = states from in
    all (λ rule.
    is_refused number plan (step_answer rule t s w blank) && is_refused_run number plan (run_answer rule t s w blank 8)
    && same (step_states rule t s w blank ++ run_states rule t s w blank 8) (s ++ s)
    && same (step_causes rule t s w blank ++ run_causes rule t s w blank 8) (blank ++ blank)) rules
holds_in (row_lengths t s w c) =
    all (λ rule.
    is_refused 10 0 (step_answer rule t s w c) && is_refused_run 10 0 (run_answer rule t s w c 8)
    && same (step_states rule t s w c ++ run_states rule t s w c 8) (s ++ s)
    && same (step_causes rule t s w c ++ run_causes rule t s w c 8) (c ++ c)) both
holds_in (row_why rules t from w to why) =
    let n : ℕ = plan_count t in
    let s : List ℕ = many_states n from in
    let c : List ℕ = replicate n 9 in
    all (λ rule.
    is_done (step_answer rule t s w c) && same (step_states rule t s w c) (many_states n to)
    && same (step_causes rule t s w c) (many_states n why)) rules
holds_in (row_last rules t from w budget to why) =
    let s : List ℕ = states from in
    all (λ rule. same (run_states rule t s w blank budget) (states to) && same (run_causes rule t s w blank budget) (states why)) rules
holds_in (row_shows t from p part) = same (sub_tree t (states from) p) part
holds_in (row_prints n v told) = same (line n v) (text told)
holds_in (row_waits t told) =
    is_accepted 4 (table_verdict t)
    && same (map (λ set. cond (wait_for t 0 (λ c. is_set (c - 1) set)) 49 48) (0 ∷ 1 ∷ 2 ∷ 3 ∷ 4 ∷ 5 ∷ 6 ∷ 7 ∷ [])) (text told)
holds_in (row_deep t told) = same (map (λ set. cond (wait_for t 0 (λ c. is_set (c - 1) set)) 49 48) (0 ∷ 1 ∷ 2 ∷ 3 ∷ [])) (text told)
holds_in (row_ends input k) = eqb (table_length input) k
holds_in (row_form t r number) = all (λ rule. is_told number 0 0 (record_check rule t r)) both
holds_in (row_words t r i number step plan) = is_told number step plan (words_check t r i)
holds_in (row_puts p s t before after) = eqb (with_pattern p s t before) after

pub all_hold : List Row → Bool
unfolding holds_in
all_hold [] = true
all_hold (row ∷ rows) = holds_in row && all_hold rows

-- the lines marked P
marked : List Row
unfolding T1 T1With words idle
marked =
    -- T1 from 000: 100, 200, 300, 400, 411, 422, 433, 443
    row_step both T1 000 idle 100
    ∷ row_step both T1 100 idle 200
    ∷ row_step both T1 200 idle 300
    ∷ row_step both T1 300 idle 400
    ∷ row_step both T1 400 idle 411
    ∷ row_step both T1 411 idle 422
    ∷ row_step both T1 422 idle 433
    ∷ row_step both T1 433 idle 443
    -- 433 with pick 1: 434
    ∷ row_step both T1 433 (words (2 ^ 24) 0 0) 434
    -- 443, complete (32) on plan 1: 463; then 464; 32 on plan 2: 466; then 666
    ∷ row_step both T1 443 (words 0 32 0) 463
    ∷ row_step both T1 463 idle 464
    ∷ row_step both T1 464 (words 0 0 32) 466
    ∷ row_step both T1 466 idle 666
    -- rest from 000: budget 8 gives 8 at 443; budget 7 still moving at 433
    ∷ row_rests both T1 000 8 8 443
    ∷ row_moves both T1 000 7 433
    -- T1, 473: 778. With m 1: 474. With m 1 and retry: 413
    ∷ row_step both T1 473 idle 778
    ∷ row_step both (T1With 0 0 1 32) 473 idle 474
    ∷ row_step both (T1With 1 0 1 32) 473 idle 413
    -- root with abort present, word 16, 443: 778
    ∷ row_step both (T1With 0 16 2 32) 443 (words 16 0 0) 778
    -- root with suspend present, 443, word 4: 553, also with 32 on plan 1; then word 0: 443
    ∷ row_step both (T1With 0 4 2 32) 443 (words 4 0 0) 553
    ∷ row_step both (T1With 0 4 2 32) 443 (words 4 32 0) 553
    ∷ row_step both (T1With 0 4 2 32) 553 idle 443
    -- plan 1 with filter present, 411: word 0 gives 482, word 64 gives 412, word 65 gives 422
    ∷ row_step both (T1With 0 0 2 33) 411 idle 482
    ∷ row_step both (T1With 0 0 2 33) 411 (words 0 64 0) 412
    ∷ row_step both (T1With 0 0 2 33) 411 (words 0 65 0) 422
    ∷ []

-- lines that are not marked P, as far as no long table or record is needed; programs run them all
unmarked : List Row
unfolding T1 T1With star words idle
unmarked =
    -- word 1 on plan 1: 12. Pick 2 on plan 0: 12. States 444: 11 at plan 2. T1 with m 3: 9 at plan 0. 31 bytes: 5. 257 plans: 4
    row_refuses both T1 000 (words 0 1 0) 12 1
    ∷ row_refuses both T1 000 (words (2 * 2 ^ 24) 0 0) 12 0
    ∷ row_refuses both T1 444 idle 11 2
    ∷ row_refuses both (T1With 0 0 3 32) 000 idle 9 0
    ∷ row_refuses both (take 31 T1) 000 idle 5 0
    ∷ row_refuses both (take 5 T1 ++ 1 ∷ 1 ∷ drop 7 T1) 000 idle 4 0
    -- a 65th child: 6; 64 pass
    ∷ row_refuses both (star 65) 000 idle 6 65
    ∷ row_accepts (star 64) 65
    -- the words of two lines; that they are the right ones is the checker's matter
    ∷ row_prints 3 (Ok 8) "accepted 3 8\n"
    ∷ row_prints 3 (Err (Unexplained 8 2)) "refused 15 8 2\n"
    ∷ []

-- rows of our own: moves
our_moves : List Row
unfolding T1 T1With sequential parallel unordered chain three words idle
our_moves =
    -- two of the 'Errors a good programmer makes' that no row above refuses: a Suspended plan that completes, and old endings kept
    -- under a retried plan
    row_step both (T1With 0 4 2 32) 553 (words 0 32 0) 443
    ∷ row_step both chain 476 idle 410
    -- orders only where the parent was and stays Activated: none where it is suspended in this step, none where it is reactivated
    ∷ row_step both (T1With 0 4 2 32) 400 (words 4 0 0) 500
    ∷ row_step both (T1With 0 4 2 32) 500 idle 400
    -- wait-for-optional: one child is enough for the root, but it waits for the other; without the flag it completes
    ∷ row_step both (T1With 2 0 1 32) 464 idle 464
    ∷ row_step both (T1With 0 0 1 32) 464 idle 667
    -- and an Inactive child is waited for, whatever its sibling
    ∷ row_step both (sequential 2 1) 460 idle 461
    -- too many are lost: a Rejected child counts as an Aborted one does
    ∷ row_step both T1 483 idle 788
    -- sequential: the first child not done gets every order, the second none; the first is done when Completed, Rejected, or Aborted
    -- without retry-aborted
    ∷ row_step both (sequential 0 1) 400 idle 410
    ∷ row_step both (sequential 0 1) 430 idle 440
    ∷ row_step both (sequential 0 2) 460 idle 461
    ∷ row_step both (sequential 0 1) 480 idle 481
    ∷ row_step both (sequential 0 1) 470 idle 471
    ∷ row_step both (sequential 1 1) 470 idle 410
    -- parallel: the gate is shut beside a child that is Possible, and open beside one in execution or where all are Ready
    ∷ row_step both parallel 432 idle 433
    ∷ row_step both parallel 433 idle 444
    ∷ row_step both parallel 443 idle 444
    ∷ row_step both parallel 473 idle 474
    -- and of three children, beside one that is Considered: open beside one that is 4, 5, 6 or 7, shut beside a Rejected one
    ∷ row_chooses (three 2) 4431 0 0 4442
    ∷ row_chooses (three 2) 4531 0 0 4442
    ∷ row_chooses (three 2) 4631 0 0 4642
    ∷ row_chooses (three 2) 4731 0 0 4742
    ∷ row_chooses (three 2) 4831 0 0 4832
    -- unordered: every child at once
    ∷ row_step both unordered 430 idle 441
    -- setup of plan 1: not satisfiable, still satisfiable, satisfied; it is asked by its own bits, not by the filter's
    ∷ row_step both (T1With 0 0 2 34) 422 idle 483
    ∷ row_step both (T1With 0 0 2 34) 422 (words 0 128 0) 423
    ∷ row_step both (T1With 0 0 2 34) 422 (words 0 130 0) 433
    ∷ row_step both (T1With 0 0 2 34) 422 (words 0 64 0) 483
    -- abort goes before suspend, and is felt by a Suspended plan, before its reactivate
    ∷ row_step both (T1With 0 20 2 32) 443 (words 20 0 0) 778
    ∷ row_step both (T1With 0 20 2 32) 553 (words 16 0 0) 778
    -- filter of plan 1, overridable: still satisfiable where no bit says so, and holds once overridden; manual: neither of the two, and
    -- satisfied it holds with its trigger only. Setup, overridable
    ∷ row_step both (take 22 (T1With 0 0 2 33) ++ 1 ∷ drop 23 (T1With 0 0 2 33)) 411 idle 412
    ∷ row_step both (take 22 (T1With 0 0 2 33) ++ 1 ∷ drop 23 (T1With 0 0 2 33)) 411 (words 0 (2 ^ 14) 0) 422
    ∷ row_step both (take 21 (T1With 0 0 2 33) ++ 1 ∷ drop 22 (T1With 0 0 2 33)) 411 idle 482
    ∷ row_step both (take 21 (T1With 0 0 2 33) ++ 1 ∷ drop 22 (T1With 0 0 2 33)) 411 (words 0 65 0) 412
    ∷ row_step both (take 21 (T1With 0 0 2 33) ++ 1 ∷ drop 22 (T1With 0 0 2 33)) 411 (words 0 (65 + 2 ^ 8) 0) 422
    ∷ row_step both (take 22 (T1With 0 0 2 34) ++ 2 ∷ drop 23 (T1With 0 0 2 34)) 422 idle 423
    ∷ []

-- the same rows for each of a few bodies
for_each : List ℕ → (ℕ → List Row) → List Row
for_each [] rows = []
for_each (body ∷ bodies) rows = rows body ++ for_each bodies rows

-- document 02 (i): moves under bodies 5 to 8
bad_turns : List Row
unfolding for_each T1Of two words idle
bad_turns =
    -- on abort: the first child is considered; the second is not while the first runs or is Suspended, nor when it has completed, and is
    -- once it is Aborted, and then goes on
    row_step both (two 5 0) 400 idle 410
    ∷ row_step both (two 5 0) 440 idle 440
    ∷ row_step both (two 5 0) 450 idle 440
    ∷ row_step both (two 5 0) 460 idle 460
    ∷ row_step both (two 5 0) 480 idle 480
    ∷ row_step both (two 5 0) 470 idle 471
    ∷ row_step both (two 5 0) 471 idle 472
    ∷ row_step both (two 5 0) 472 idle 473
    ∷ row_step both (two 5 0) 473 idle 474
    -- on suspend: not beside an Aborted first; on abort or suspend: there too
    ∷ row_step both (two 6 0) 470 idle 470
    ∷ row_step both (two 7 0) 470 idle 471
    -- if-then-else: the second where bit 21 is clear, none yet where it is set alone, the first where both are; what is Ready is activated,
    -- and the other is no longer considered
    ∷ row_step both (two 8 0) 400 idle 401
    ∷ row_step both (two 8 0) 400 (words (2 * 2 ^ 20) 0 0) 400
    ∷ row_step both (two 8 0) 400 (words (3 * 2 ^ 20) 0 0) 410
    ∷ row_step both (two 8 0) 403 idle 404
    ∷ row_step both (two 8 0) 403 (words (3 * 2 ^ 20) 0 0) 404
    ∷ row_step both (two 8 0) 430 idle 440
    -- wait-for-optional, and complete (32) on plan 0: an Inactive second counts as ended beside an ended first (below), and so does a first
    ∷ row_step both (two 8 2) 406 (words 32 0 0) 606
    -- two Inactive children count as nothing, and no child that is under way counts
    ∷ row_step both (two 8 2) 400 (words (32 + 2 * 2 ^ 20) 0 0) 400
    ∷ row_step both (two 5 2) 474 (words 32 0 0) 474
    ∷ row_step both (two 6 2) 464 (words 32 0 0) 464
    ∷ row_step both (two 6 2) 446 (words 32 0 0) 446
    ∷ row_step both (two 6 2) 466 (words 32 0 0) 666
    -- loss is as ever: both named, and one is asked for, or both
    ∷ row_step both (T1Of 5 0 0 1 0x20) 470 idle 471
    ∷ row_step both (T1Of 5 0 0 2 0x20) 470 idle 770
    ∷ []
    -- on suspend, and on abort or suspend: the second is considered beside a Suspended first, and goes on though that is reactivated or has
    -- completed; not beside one that is in another state but Aborted
    ++ for_each (6 ∷ 7 ∷ []) (λ body.
    row_step both (two body 0) 450 idle 441
    ∷ row_step both (two body 0) 441 idle 442
    ∷ row_step both (two body 0) 461 idle 462
    ∷ row_step both (two body 0) 430 idle 440
    ∷ row_step both (two body 0) 440 idle 440
    ∷ row_step both (two body 0) 460 idle 460
    ∷ row_step both (two body 0) 480 idle 480
    ∷ [])
    -- wait-for-optional beside a Completed first; beside an Aborted one an Inactive second does not count on abort and on abort or suspend
    -- until it has ended too, and counts on suspend and of if-then-else
    ++ for_each (5 ∷ 6 ∷ 7 ∷ 8 ∷ []) (λ body. row_step both (two body 2) 460 (words 32 0 0) 660 ∷ [])
    ++ for_each (5 ∷ 7 ∷ []) (λ body.
    row_step both (two body 2) 470 (words 32 0 0) 471 ∷ row_step both (two body 2) 476 (words 32 0 0) 676 ∷ [])
    ++ for_each (6 ∷ 8 ∷ []) (λ body. row_step both (two body 2) 470 (words 32 0 0) 670 ∷ [])

-- and refusals
bad_turns_refused : List Row
unfolding for_each two three words idle
bad_turns_refused =
    -- 8: three children, retry-aborted
    row_refuses both (three 5) 000 idle 8 0
    ∷ row_refuses both (two 5 1) 000 idle 8 0
    ∷ row_refuses both (two 8 1) 000 idle 8 0
    -- 11: the second child beside a first that runs, has completed, is Rejected, is Ready, or has begun or ended too
    ∷ row_refuses both (two 5 0) 441 idle 11 2
    ∷ row_refuses both (two 5 0) 461 idle 11 2
    ∷ row_refuses both (two 5 0) 481 idle 11 2
    ∷ row_refuses both (two 8 0) 411 idle 11 2
    ∷ row_refuses both (two 8 0) 461 idle 11 2
    ∷ row_refuses both (two 8 0) 471 idle 11 2
    ∷ row_refuses both (two 8 0) 481 idle 11 2
    -- 12: bit 20 without bit 21, either bit on a plan of another body, be it under body 8; a bit that none may have
    ∷ row_refuses both (two 8 0) 000 (words (2 ^ 20) 0 0) 12 0
    ∷ row_refuses both (two 4 0) 000 (words (2 * 2 ^ 20) 0 0) 12 0
    ∷ row_refuses both (two 8 0) 000 (words 0 (3 * 2 ^ 20) 0) 12 1
    ∷ row_refuses both (two 8 0) 000 (words (2 ^ 22) 0 0) 12 0
    ∷ row_refuses both (two 8 0) 000 (words (2 ^ 23) 0 0) 12 0
    ∷ []
    ++ for_each (6 ∷ 7 ∷ []) (λ body. row_refuses both (two body 0) 431 idle 11 2 ∷ row_refuses both (two body 0) 481 idle 11 2 ∷ [])

-- document 02 (ii): the two rules, which part where a plan with retry-aborted has an Aborted child
retries : List Row
unfolding for_each T1 T1With T1Of sequential waiting words idle
retries =
    -- T1 with retry goes from 473 to 413, and by rule 1 to 778; a run goes on from there
    row_step rule1 (T1With 1 0 2 32) 473 idle 778
    ∷ row_step rule2 (T1With 1 0 2 32) 473 idle 413
    ∷ row_rests rule1 (T1With 1 0 2 32) 473 8 1 778
    ∷ row_rests rule2 (T1With 1 0 2 32) 473 8 3 434
    -- and rests at once where a Suspended root is not reactivated
    ∷ row_rests rule1 (T1With 1 12 2 32) 573 8 1 778
    ∷ row_rests rule2 (T1With 1 12 2 32) 573 8 0 573
    -- a Rejected child is lost by both, alone and beside an Aborted one, which is not lost by rule 2
    ∷ row_step both (T1With 1 0 2 32) 483 idle 788
    ∷ row_step both (T1With 1 0 2 32) 478 idle 778
    ∷ row_step rule1 (T1With 1 0 1 32) 478 idle 778
    ∷ row_step rule2 (T1With 1 0 1 32) 478 idle 418
    -- a Suspended root: aborted by rule 1, reactivated by rule 2, and it does not retry in that step
    ∷ row_step rule1 (T1With 1 4 2 32) 573 idle 778
    ∷ row_step rule2 (T1With 1 4 2 32) 573 idle 473
    -- the root's own abort is felt by both
    ∷ row_step both (T1With 1 16 2 32) 473 (words 16 0 0) 778
    -- completion is asked as before: an Aborted child is ended, with wait-for-optional, also where it would be retried
    ∷ row_step both (T1With 3 0 1 32) 467 idle 667
    -- retry-aborted is the plan's own: plan 1 retries the leaf, and then the root retries plan 1 and plan 1 does not retry the leaf
    ∷ row_step rule1 (waiting 0 1) 447 idle 477
    ∷ row_step rule2 (waiting 0 1) 447 idle 441
    ∷ row_step both (waiting 1 0) 447 idle 477
    -- the other bodies that may have retry-aborted
    ∷ row_step rule1 (sequential 1 2) 470 idle 770
    ∷ row_step rule2 (sequential 1 2) 470 idle 410
    ∷ []
    ++ for_each (2 ∷ 4 ∷ []) (λ body. row_step rule1 (T1Of body 1 0 2 32) 473 idle 778 ∷ row_step rule2 (T1Of body 1 0 2 32) 473 idle 414 ∷ [])
    -- 17: another rule number, before a short table's 1 and before all else
    ++ (row_refuses (0 ∷ 3 ∷ 4294967295 ∷ []) T1 000 idle 17 0
    ∷ row_refuses (0 ∷ 3 ∷ 4294967295 ∷ []) (take 7 T1) 000 idle 17 0
    ∷ row_refuses (0 ∷ 3 ∷ 4294967295 ∷ []) T1 444 idle 17 0
    ∷ [])

-- document 02 (vii): the any-order choice. The flags are those of the children of rank 0, 1 and 2; 4 is named
choices : List Row
unfolding ranked nested in_version2 node
choices =
    -- the pick is not Ready: the named one, though a lower one is Ready too; of two named ones the lower; with none the lowest
    row_chooses (ranked 0 0 4) 4233 0 0 4334
    ∷ row_chooses (ranked 0 4 0) 4233 0 0 4343
    ∷ row_chooses (ranked 0 4 4) 4233 0 0 4343
    ∷ row_chooses (ranked 0 0 0) 4233 0 0 4343
    -- wherever the pick stands
    ∷ row_chooses (ranked 0 4 0) 4332 0 2 4343
    ∷ row_chooses (ranked 0 0 4) 4383 0 1 4384
    -- named itself, between two named ones: the lowest, not the next
    ∷ row_chooses (ranked 4 0 4) 4233 0 0 4334
    ∷ row_chooses (ranked 4 4 4) 4323 0 1 4433
    -- a named one that is not Ready counts for nothing, be it the pick or not
    ∷ row_chooses (ranked 4 0 0) 4233 0 0 4343
    ∷ row_chooses (ranked 0 4 0) 4223 0 0 4334
    ∷ row_chooses (ranked 4 0 0) 4633 0 0 4643
    -- the pick is Ready: it is taken, named or not, whatever else is
    ∷ row_chooses (ranked 0 0 4) 4333 0 0 4433
    ∷ row_chooses (ranked 4 0 0) 4333 0 1 4343
    ∷ row_chooses (ranked 4 4 4) 4333 0 2 4334
    -- nobody is Ready: nobody is taken; beside one in execution nobody is
    ∷ row_chooses (ranked 0 0 4) 4222 0 0 4333
    ∷ row_chooses (ranked 0 0 4) 4433 0 0 4433
    -- by the children, names and pick of the plan itself, be it named and whatever its m and flags; a child that is no leaf as any other
    ∷ row_chooses nested 44203303 1 0 44303404
    ∷ row_chooses nested 44203203 1 0 44304304
    ∷ row_chooses nested 44203303 1 1 44304304
    -- in version 2 as in version 1
    ∷ row_chooses (in_version2 (ranked 0 0 4) 1 (node 5 0 0)) 4233 0 0 4334
    ∷ []

-- rows of our own: refusals
our_refusals : List Row
unfolding T1 T1With T1Of sequential crossed star table_of leaves words idle
our_refusals =
    -- 1 to 3, 6: too short, another mark, another version, a parent that is no ancestor of the plan before
    row_refuses both (take 7 T1) 000 idle 1 0
    ∷ row_refuses both (0 ∷ drop 1 T1) 000 idle 2 0
    ∷ row_refuses both (take 3 T1 ++ 3 ∷ drop 4 T1) 000 idle 3 0
    ∷ row_refuses both crossed 000 idle 6 3
    -- 3: the version's high byte. 4: no plan, the last byte of the header; 256 plans pass that. 6: a root with a parent
    ∷ row_refuses both (take 4 T1 ++ 1 ∷ drop 5 T1) 000 idle 3 0
    ∷ row_refuses both (take 5 T1 ++ 0 ∷ drop 6 T1) 000 idle 4 0
    ∷ row_refuses both (take 7 T1 ++ 1 ∷ drop 8 T1) 000 idle 4 0
    ∷ row_refuses both (take 5 T1 ++ 0 ∷ 1 ∷ drop 7 T1) 000 idle 5 0
    ∷ row_refuses both (take 8 T1 ++ 0 ∷ 0 ∷ drop 10 T1) 000 idle 6 0
    -- 7: a body, an unused flag, an unused condition. 8: a leaf with children, a root that is named
    ∷ row_refuses both (T1Of 9 0 0 2 32) 000 idle 7 0
    ∷ row_refuses both (T1With 8 0 2 32) 000 idle 7 0
    ∷ row_refuses both (T1With 0 64 2 32) 000 idle 7 0
    -- 7, of plan 1: an unused bit of what is manual, and of what is overridable
    ∷ row_refuses both (take 21 T1 ++ 64 ∷ drop 22 T1) 000 idle 7 1
    ∷ row_refuses both (take 22 T1 ++ 64 ∷ drop 23 T1) 000 idle 7 1
    ∷ row_refuses both (T1Of 0 0 0 0 32) 000 idle 8 0
    ∷ row_refuses both (T1With 4 0 2 32) 000 idle 8 0
    -- 8, of plan 1: an absent condition that is manual, one that is overridable; a leaf with retry-aborted, one with a wait number
    ∷ row_refuses both (take 21 T1 ++ 16 ∷ drop 22 T1) 000 idle 8 1
    ∷ row_refuses both (take 22 T1 ++ 16 ∷ drop 23 T1) 000 idle 8 1
    ∷ row_refuses both (take 19 T1 ++ 5 ∷ drop 20 T1) 000 idle 8 1
    ∷ row_refuses both (take 23 T1 ++ 1 ∷ drop 24 T1) 000 idle 8 1
    -- and one with wait-for-optional; a plan that is no leaf and has no children; on abort with one child
    ∷ row_refuses both (take 19 T1 ++ 6 ∷ drop 20 T1) 000 idle 8 1
    ∷ row_refuses both (take 18 T1 ++ 4 ∷ drop 19 T1) 000 idle 8 1
    ∷ row_refuses both (table_of 2 5 0 0x20 (leaves 0x20 1)) 000 idle 8 0
    -- 10: more plans than states, words and causes; than states alone; a word too few alone; more in `our_causes`
    ∷ row_refuses both (star 3) 000 idle 10 0
    ∷ row_lengths (star 3) (states 000) (idle ++ 0 ∷ 0 ∷ 0 ∷ 0 ∷ []) (replicate 4 9)
    ∷ row_refuses both T1 000 (take 8 idle) 10 0
    -- 11: no code; a child that does not suit a parent that is Inactive, Rejected, Completed or Suspended; a child that a sequential
    -- plan has not come to
    ∷ row_refuses both T1 409 idle 11 2
    ∷ row_refuses both T1 010 idle 11 1
    ∷ row_refuses both T1 866 idle 11 1
    ∷ row_refuses both T1 613 idle 11 1
    ∷ row_refuses both T1 543 idle 11 1
    -- 11: the root's own byte; a child in selection or execution under an Aborted plan; one that has ended under a plan in selection
    ∷ row_refuses both T1 900 idle 11 0
    ∷ row_refuses both T1 753 idle 11 1
    ∷ row_refuses both T1 730 idle 11 1
    ∷ row_refuses both T1 160 idle 11 1
    ∷ row_refuses both T1 260 idle 11 1
    ∷ row_refuses both T1 360 idle 11 1
    ∷ row_refuses both (sequential 0 1) 403 idle 11 2
    -- 12: unused bits, setup satisfied but not satisfiable, a pick of a leaf
    ∷ row_refuses both T1 000 (words (2 ^ 20) 0 0) 12 0
    ∷ row_refuses both T1 000 (words 0 (2 ^ 30) 0) 12 1
    ∷ row_refuses both T1 000 (words 0 0 2) 12 2
    ∷ row_refuses both T1 000 (words 0 (2 ^ 24) 0) 12 1
    -- the highest bit, and a pick of which only the highest bit is set
    ∷ row_refuses both T1 000 (words 0 (2 ^ 31) 0) 12 1
    ∷ row_refuses both T1 000 (words (2 ^ 29) 0 0) 12 0
    ∷ []

-- rows of our own: sub trees and lines
our_shows : List Row
unfolding T1 T1With chain star
our_shows =
    -- sub trees: of a root, of the middle of the chain, of a leaf with a sibling after it, of no plan
    row_shows chain 476 0 (4 ∷ 7 ∷ 6 ∷ [])
    ∷ row_shows chain 476 1 (7 ∷ 6 ∷ [])
    ∷ row_shows T1 443 1 (4 ∷ [])
    ∷ row_shows chain 476 3 []
    -- nor of fewer states than plans, nor under a table that is refused
    ∷ row_shows (star 3) 443 1 []
    ∷ row_shows (T1With 0 0 3 32) 443 1 []
    ∷ row_prints 256 (Ok 65535) "accepted 256 65535\n"
    ∷ row_prints 1 (Ok 0) "accepted 1 0\n"
    ∷ []

-- k nodes from node i on, each 'not' the next
nots : ℕ → ℕ → List ℕ
unfolding node
nots zero i = []
nots (suc k) i = node 1 (suc i) 0 ++ nots k (suc i)

-- document 02 (v): each kind, and kinds in one another
our_formulas : List Row
unfolding trio node nots
our_formulas =
    row_waits (trio 1 (node 0 0 0)) "01010101"
    ∷ row_waits (trio 1 (node 0 1 0)) "00110011"
    ∷ row_waits (trio 1 (node 0 2 0)) "00001111"
    ∷ row_waits (trio 2 (node 1 1 0 ++ node 0 0 0)) "10101010"
    ∷ row_waits (trio 3 (node 2 1 2 ++ node 0 0 0 ++ node 0 1 0)) "00010001"
    ∷ row_waits (trio 3 (node 3 1 2 ++ node 0 0 0 ++ node 0 1 0)) "01110111"
    ∷ row_waits (trio 3 (node 4 1 2 ++ node 0 0 0 ++ node 0 1 0)) "01100110"
    ∷ row_waits (trio 1 (node 5 0 0)) "11111111"
    ∷ row_waits (trio 1 (node 5 1 0)) "01110111"
    ∷ row_waits (trio 1 (node 5 2 0)) "00010001"
    -- (0 and 1) or 2; not (0 or 1); not not 0; (0 xor 1) xor 2; (0 xor 1) and not 2; at least one named one, and not 2
    ∷ row_waits (trio 5 (node 3 1 4 ++ node 2 2 3 ++ node 0 0 0 ++ node 0 1 0 ++ node 0 2 0)) "00011111"
    ∷ row_waits (trio 4 (node 1 1 0 ++ node 3 2 3 ++ node 0 0 0 ++ node 0 1 0)) "10001000"
    ∷ row_waits (trio 3 (node 1 1 0 ++ node 1 2 0 ++ node 0 0 0)) "01010101"
    ∷ row_waits (trio 5 (node 4 1 4 ++ node 4 2 3 ++ node 0 0 0 ++ node 0 1 0 ++ node 0 2 0)) "01101001"
    ∷ row_waits (trio 6 (node 2 1 4 ++ node 4 2 3 ++ node 0 0 0 ++ node 0 1 0 ++ node 1 5 0 ++ node 0 2 0)) "01100000"
    ∷ row_waits (trio 4 (node 2 1 2 ++ node 5 1 0 ++ node 1 3 0 ++ node 0 2 0)) "01110000"
    -- 256 nodes, as many as there may be, each under the one before: 255 times 'not', and child 0
    ∷ row_deep (trio 256 (nots 255 0 ++ node 0 0 0)) "1010"
    ∷ []

-- completion and loss by a formula: 'and' waits for both children, 'or' for one. 'not child 0' is lost while child 0 is neither Rejected
-- nor Aborted; beside an Aborted one it completes, but under retry-aborted that child is not lost by rule 2, and so the plan is
our_waits : List Row
unfolding T1Waits node in_version2 waiting words idle
our_waits =
    row_step both (T1Waits 0 3 (node 2 1 2 ++ node 0 0 0 ++ node 0 1 0)) 463 idle 464
    ∷ row_step both (T1Waits 0 3 (node 3 1 2 ++ node 0 0 0 ++ node 0 1 0)) 463 idle 668
    ∷ row_step both (T1Waits 0 2 (node 1 1 0 ++ node 0 0 0)) 433 idle 788
    ∷ row_step both (T1Waits 0 2 (node 1 1 0 ++ node 0 0 0)) 473 idle 678
    ∷ row_step rule1 (T1Waits 1 2 (node 1 1 0 ++ node 0 0 0)) 473 idle 678
    ∷ row_step rule2 (T1Waits 1 2 (node 1 1 0 ++ node 0 0 0)) 473 idle 778
    -- a leaf waits for nothing, though its byte 7 is 0; a plan's formula asks for its own children, and begins where its own byte 7 says
    ∷ row_step both (T1Waits 0 3 (node 2 1 2 ++ node 0 0 0 ++ node 0 1 0)) 443 (words 0 32 0) 463
    ∷ row_step both (in_version2 (waiting 0 0) 4 (node 5 0 0 ++ node 2 2 3 ++ node 0 0 0 ++ node 5 1 0)) 446 (words 0 32 0) 466
    ∷ row_step both (in_version2 (waiting 0 0) 2 (node 5 0 0 ++ node 0 0 0)) 447 idle 477
    ∷ []

-- what is wrong with a formula
bad_formulas : List Row
unfolding T1 T1With T1Waits node in_version2 table_of trio uneven crossing idle
bad_formulas =
    -- 5: no number of nodes, half of it, a node too few, a byte too many
    row_refuses both (take 3 T1 ++ 2 ∷ drop 4 T1) 000 idle 5 0
    ∷ row_refuses both (take 3 T1 ++ 2 ∷ drop 4 T1 ++ 0 ∷ []) 000 idle 5 0
    ∷ row_refuses both (T1Waits 0 2 (node 5 0 0)) 000 idle 5 0
    ∷ row_refuses both (T1Waits 0 1 (node 5 0 0 ++ 0 ∷ [])) 000 idle 5 0
    -- 22 at 0: more than 256 nodes (256 pass that), no node, a first node that is not there, of the root and of plan 1; a leaf needs none
    ∷ row_refuses both (T1Waits 0 257 (replicate 1028 0)) 000 idle 22 0
    ∷ row_refuses both (T1Waits 0 256 (replicate 1024 0)) 000 idle 22 1
    ∷ row_refuses both (T1Waits 0 0 []) 000 idle 22 0
    ∷ row_refuses both (in_version2 (T1With 0 0 2 32) 2 (node 1 1 0 ++ node 0 9 0)) 000 idle 22 0
    ∷ row_refuses both (uneven 1 (node 0 1 0)) 000 idle 22 0
    ∷ row_accepts (in_version2 (table_of 1 0 0 0 []) 0 []) 1
    -- at the lowest node: kind 6, the last byte, b of kinds 0, 1 and 5
    ∷ row_refuses both (T1Waits 0 2 (node 1 1 0 ++ node 6 0 0)) 000 idle 22 1
    ∷ row_refuses both (T1Waits 0 2 (node 1 1 0 ++ 0 ∷ 0 ∷ 0 ∷ 1 ∷ [])) 000 idle 22 1
    ∷ row_refuses both (T1Waits 0 2 (node 1 1 0 ++ node 0 0 1)) 000 idle 22 1
    ∷ row_refuses both (T1Waits 0 3 (node 1 1 0 ++ node 1 2 1 ++ node 0 0 0)) 000 idle 22 1
    ∷ row_refuses both (T1Waits 0 2 (node 1 1 0 ++ node 5 0 1)) 000 idle 22 1
    -- an operand that is the node itself, one below it, one that is not there, as a and as b
    ∷ row_refuses both (T1Waits 0 2 (node 0 0 0 ++ node 1 1 0)) 000 idle 22 1
    ∷ row_refuses both (T1Waits 0 3 (node 0 0 0 ++ node 1 2 0 ++ node 1 1 0)) 000 idle 22 2
    ∷ row_refuses both (T1Waits 0 2 (node 1 1 0 ++ node 1 2 0)) 000 idle 22 1
    ∷ row_refuses both (T1Waits 0 2 (node 2 1 2 ++ node 0 0 0)) 000 idle 22 0
    -- a node that is used twice: as both operands, by two nodes, by itself too, by a broken node too; one that is not used
    ∷ row_refuses both (T1Waits 0 2 (node 2 1 1 ++ node 0 0 0)) 000 idle 22 1
    ∷ row_refuses both (T1Waits 0 4 (node 2 1 2 ++ node 1 3 0 ++ node 1 3 0 ++ node 0 0 0)) 000 idle 22 3
    ∷ row_refuses both (T1Waits 0 3 (node 2 1 2 ++ node 1 1 0 ++ node 0 0 0)) 000 idle 22 1
    ∷ row_refuses both (T1Waits 0 3 (node 2 1 2 ++ node 0 0 0 ++ 1 ∷ 1 ∷ 0 ∷ 1 ∷ [])) 000 idle 22 1
    ∷ row_refuses both (T1Waits 0 2 (node 0 0 0 ++ node 0 1 0)) 000 idle 22 1
    -- a rank that is not there, of its own plan, however deep; not before a node that breaks another rule
    ∷ row_refuses both (T1Waits 0 2 (node 1 1 0 ++ node 0 2 0)) 000 idle 22 1
    ∷ row_refuses both (T1Waits 0 3 (node 2 1 2 ++ node 0 2 0 ++ node 0 0 1)) 000 idle 22 2
    ∷ row_accepts (uneven 3 (node 0 1 0 ++ node 1 2 0 ++ node 0 0 0)) 4
    ∷ row_refuses both (uneven 3 (node 0 1 0 ++ node 1 2 0 ++ node 0 1 0)) 000 idle 22 2
    ∷ row_refuses both (uneven 5 (node 0 1 0 ++ node 2 2 3 ++ node 0 0 0 ++ node 1 4 0 ++ node 0 1 0)) 000 idle 22 4
    ∷ row_refuses both (crossing 2 (node 0 1 0 ++ node 0 1 0)) 000 idle 22 0
    -- 9: more named children than there are, of its own plan, at the lowest plan; 22 before 9, 8 before 22
    ∷ row_refuses both (T1Waits 0 1 (node 5 3 0)) 000 idle 9 0
    ∷ row_refuses both (trio 1 (node 5 3 0)) 000 idle 9 0
    ∷ row_refuses both (crossing 2 (node 5 2 0 ++ node 5 1 0)) 000 idle 9 0
    ∷ row_refuses both (uneven 3 (node 0 1 0 ++ node 1 2 0 ++ node 5 2 0)) 000 idle 9 1
    ∷ row_refuses both (T1Waits 0 3 (node 2 1 2 ++ node 5 3 0 ++ node 0 2 0)) 000 idle 22 2
    ∷ row_refuses both (T1Waits 4 1 (node 6 0 0)) 000 idle 8 0
    ∷ []

-- where the table of an input ends: behind its nodes; at the end of the input where nodes, or a byte of their number, are missing; behind
-- its plans; at the end of the input where the header is refused, here by 4
our_ends : List Row
unfolding T1 T1With T1Waits node
our_ends =
    row_ends (T1Waits 0 1 (node 5 0 0) ++ 65 ∷ []) 38
    ∷ row_ends (T1Waits 0 2 (node 5 0 0)) 38
    ∷ row_ends (take 3 T1 ++ 2 ∷ drop 4 T1 ++ 7 ∷ []) 33
    ∷ row_ends (T1 ++ 65 ∷ []) 32
    ∷ row_ends (take 7 T1 ++ 1 ∷ drop 8 T1 ++ 65 ∷ []) 33
    ∷ []

-- a record's header with a mark's last letter, a version and n, each of one byte
header : ℕ → ℕ → ℕ → List ℕ
header letter version n = 0x41 ∷ 0x50 ∷ letter ∷ version ∷ 0x00 ∷ n ∷ 0x00 ∷ 0x00 ∷ []

-- T1's header, and two steps behind it with these words
good_header : List ℕ
unfolding header
good_header = header 0x52 1 3

two_steps : List ℕ → List ℕ → List ℕ
unfolding good_header
two_steps w₁ w₂ = good_header ++ w₁ ++ states 100 ++ w₂ ++ states 200

-- what is wrong with a record, before its states are looked at
our_records : List Row
unfolding T1 T1With T1Waits node header good_header two_steps words idle
our_records =
    -- 13: under 8 bytes, another mark, another version, its high byte, another n, its high byte, the last byte; none with no steps
    row_form T1 good_header 0
    ∷ row_form T1 [] 13
    ∷ row_form T1 (take 7 good_header) 13
    ∷ row_form T1 (header 0x54 1 3) 13
    ∷ row_form T1 (header 0x52 2 3) 13
    ∷ row_form T1 (take 4 good_header ++ 1 ∷ drop 5 good_header) 13
    ∷ row_form T1 (header 0x52 1 2) 13
    ∷ row_form T1 (take 6 good_header ++ 1 ∷ drop 7 good_header) 13
    ∷ row_form T1 (take 7 good_header ++ 1 ∷ []) 13
    -- the version is 1, whatever the table's
    ∷ row_form (T1Waits 0 1 (node 5 2 0)) good_header 0
    ∷ row_form (T1Waits 0 1 (node 5 2 0)) (header 0x52 2 3) 13
    -- 14: a step has 15 bytes; 13 before 14, and the table's before both
    ∷ row_form T1 (good_header ++ replicate 15 0) 0
    ∷ row_form T1 (good_header ++ replicate 14 0) 14
    ∷ row_form T1 (good_header ++ replicate 16 0) 14
    ∷ row_form T1 (good_header ++ replicate 30 0) 0
    ∷ row_form T1 (header 0x52 2 3 ++ replicate 14 0) 13
    ∷ row_form (T1With 0 0 3 32) [] 9
    -- 12: the step is counted from 1, and each looks at its own words; a pick that a call may have is none that a record may
    ∷ row_words T1 (two_steps idle idle) 1 0 0 0
    ∷ row_words T1 (two_steps idle (words 0 1 0)) 0 0 0 0
    ∷ row_words T1 (two_steps idle (words 0 1 0)) 1 12 2 1
    ∷ row_words T1 (two_steps (words 0 1 2) idle) 0 12 1 1
    ∷ row_words T1 (two_steps (words (2 ^ 24) 0 0) idle) 0 12 1 0
    ∷ row_words T1 (two_steps (words 0 0 (2 ^ 20)) idle) 0 12 1 2
    ∷ []

-- document 02 (iii): what is known of a pattern, in a word's own bits, set and cleared, all others as they were
our_words : List Row
our_words =
    row_puts (Of Filter) true true 0 65
    ∷ row_puts (Of Filter) false true 1 64
    ∷ row_puts (Of Filter) false false (2 ^ 32 - 1) (2 ^ 32 - 66)
    ∷ row_puts (Of Setup) true true 65 195
    ∷ row_puts (Of Suspend) true true 0 4
    ∷ row_puts (Of Reactivate) true false 4 12
    ∷ row_puts (Of Abort) false true (2 ^ 32 - 1) (2 ^ 32 - 17)
    ∷ row_puts (Of Complete) true true 16 48
    ∷ row_puts If true true 0 (2 ^ 20 + 2 ^ 21)
    ∷ row_puts If false true (2 ^ 20) (2 ^ 21)
    ∷ row_puts If false false (2 ^ 32 - 1) (2 ^ 32 - 1 - 2 ^ 20 - 2 ^ 21)
    ∷ []

-- document 02 (ix): why plans moved
our_causes : List Row
unfolding T1 T1With T1Waits node chain waiting table_of entry_under leaves three star bytes words idle
our_causes =
    -- ordered, its own filter, its own setup, ordered; then its children likewise, of which it activates one, or the one picked; which
    -- completes; and it does
    row_why both T1 000 idle 100 100
    ∷ row_why both T1 100 idle 200 200
    ∷ row_why both T1 200 idle 300 200
    ∷ row_why both T1 300 idle 400 100
    ∷ row_why both T1 400 idle 411 011
    ∷ row_why both T1 411 idle 422 022
    ∷ row_why both T1 422 idle 433 022
    ∷ row_why both T1 433 idle 443 010
    ∷ row_why both T1 433 (words (2 ^ 24) 0 0) 434 001
    ∷ row_why both T1 443 (words 0 32 0) 463 020
    ∷ row_why both T1 466 idle 666 200
    -- nobody moves: ended ones that nobody retries, a filter and a setup that wait, Suspended ones that are not reactivated
    ∷ row_why both (three 4) 4678 (replicate 16 0) 4678 0000
    ∷ row_why both (table_of 3 4 0 0x20 (leaves 3 2)) 412 (words 0 64 128) 412 000
    ∷ row_why both (T1With 0 12 2 32) 553 idle 553 000
    -- Rejected by its own filter, the root's too, and by its own setup; also under a Suspended parent, under which they go on as well
    ∷ row_why both (T1With 0 0 2 33) 411 idle 482 022
    ∷ row_why both (T1With 0 1 2 32) 100 idle 800 200
    ∷ row_why both (T1With 0 0 2 34) 422 idle 483 022
    ∷ row_why both (table_of 3 4 0 0x0C (leaves 3 2)) 512 idle 588 022
    ∷ row_why both (table_of 3 4 0 0x0C (leaves 3 2)) 512 (words 0 65 130) 523 022
    -- the root: too many children lost, its abort being absent, its bit set, or present; its own abort; both, and its own abort is told; of
    -- a Suspended one the same; its children, where they move, are forced
    ∷ row_why both T1 473 idle 778 304
    ∷ row_why both T1 473 (words 16 0 0) 778 304
    ∷ row_why both (T1With 0 16 2 32) 473 idle 778 304
    ∷ row_why both (T1With 0 16 2 32) 443 (words 16 0 0) 778 244
    ∷ row_why both (T1With 0 16 2 32) 473 (words 16 0 0) 778 204
    ∷ row_why both (T1With 0 16 2 32) 400 (words 16 0 0) 700 200
    ∷ row_why both (T1With 0 4 2 32) 573 (words 16 0 0) 778 304
    ∷ row_why both (T1With 0 20 2 32) 573 idle 778 304
    ∷ row_why both (T1With 0 20 2 32) 553 (words 16 0 0) 778 244
    ∷ row_why both (T1With 0 20 2 32) 573 (words 16 0 0) 778 204
    -- its abort overridden; manual and not triggered
    ∷ row_why both (take 14 (T1With 0 16 2 32) ++ 16 ∷ drop 15 (T1With 0 16 2 32)) 443 (words (2 ^ 18) 0 0) 778 244
    ∷ row_why both (take 13 (T1With 0 16 2 32) ++ 16 ∷ drop 14 (T1With 0 16 2 32)) 473 (words 16 0 0) 778 304
    -- below the root: its own abort under a parent that is suspended now, and that is and stays so; children lost
    ∷ row_why both (T1With 0 4 2 48) 443 (words 4 16 0) 573 220
    ∷ row_why both (T1With 0 12 2 48) 553 (words 0 16 0) 573 020
    ∷ row_why both (waiting 0 0) 447 idle 477 030
    -- own abort under a parent that ends in the same step: forced; so is all under one that completes
    ∷ row_why both (T1With 0 16 2 48) 443 (words 16 16 0) 778 244
    ∷ row_why both (three 4) 4124 (bytes 32 ++ replicate 12 0) 6887 2444
    -- 'not child 0' fails though no child is lost
    ∷ row_why both (T1Waits 0 2 (node 1 1 0 ++ node 0 0 0)) 433 idle 788 344
    -- the root's own suspension forces its child's, also where the child's own suspend holds; the child's own alone
    ∷ row_why both (T1With 0 4 2 32) 443 (words 4 0 0) 553 240
    ∷ row_why both (T1With 0 4 2 36) 443 (words 4 4 0) 553 240
    ∷ row_why both (T1With 0 4 2 36) 443 (words 0 4 0) 453 020
    -- reactivated, both by their own condition
    ∷ row_why both (T1With 0 4 2 32) 553 idle 443 220
    -- retried: ordered; what stood under it is reset, if it was not Inactive before, and what stood under that
    ∷ row_why both (T1With 1 0 1 32) 473 idle 413 010
    ∷ row_why both chain 477 idle 410 014
    ∷ row_why both chain 476 idle 410 014
    ∷ row_why both chain 478 idle 410 014
    ∷ row_why both chain 470 idle 410 010
    ∷ row_why both (table_of 4 4 1 0x20 (entry_under 0 4 0 (entry_under 1 4 0 (entry_under 2 0 0 [])))) 4766 (replicate 16 0) 4100 0144
    -- where the rules part
    ∷ row_why rule1 (T1With 1 0 2 32) 473 idle 778 304
    ∷ row_why rule2 (T1With 1 0 2 32) 473 idle 413 010
    ∷ row_last rule1 (T1With 1 0 2 32) 473 idle 8 778 304
    ∷ row_last rule2 (T1With 1 0 2 32) 473 idle 1 413 010
    -- a run leaves its last step's causes, rested within its budget, at its end or not, and not those of the step that it only tried; all 0
    -- if it took none
    ∷ row_last both T1 000 idle 9 443 010
    ∷ row_last both T1 000 idle 8 443 010
    ∷ row_last both T1 000 idle 7 433 022
    ∷ row_last both T1 443 idle 8 443 000
    ∷ row_last both T1 000 idle 0 000 000
    -- 10: room for too few causes, for too many, for none; before 11 and 12, and behind 17. Of states and words alone
    ∷ row_lengths T1 (states 000) idle (9 ∷ 9 ∷ [])
    ∷ row_lengths T1 (states 000) idle (9 ∷ 9 ∷ 9 ∷ 9 ∷ [])
    ∷ row_lengths T1 (states 000) idle []
    ∷ row_lengths T1 (states 444) (words 0 1 0) (9 ∷ 9 ∷ [])
    ∷ row_refuses (0 ∷ 3 ∷ []) (star 3) 000 idle 17 0
    ∷ row_lengths T1 (9 ∷ states 000) idle (9 ∷ 9 ∷ 9 ∷ [])
    ∷ row_lengths T1 (0 ∷ 0 ∷ []) idle (9 ∷ 9 ∷ 9 ∷ [])
    ∷ row_lengths T1 (states 000) (0 ∷ idle) (9 ∷ 9 ∷ 9 ∷ [])
    ∷ []

pub table : List Row
unfolding
    marked unmarked our_moves bad_turns bad_turns_refused retries choices our_refusals our_shows our_formulas our_waits bad_formulas our_ends
    our_records our_words our_causes
table =
    marked ++ unmarked ++ our_moves ++ bad_turns ++ bad_turns_refused ++ retries ++ choices ++ our_refusals ++ our_shows ++ our_formulas
    ++ our_waits ++ bad_formulas ++ our_ends ++ our_records ++ our_words ++ our_causes

pub rows_hold : all_hold table ≡ true
unfolding
    all_hold table T1Of states leaves least_from some_below highest state_at children_before children rank is_or_is_above formula_holds
    wait_for first_nodes asked_nodes uses owner_within owner holds satisfiable
    move_by too_many_lost all_ended children_complete first_not_done gate_open may_activate fallback ready_or chosen due orders
    step_first step_by step_under step map_below causes_to causes bad_state after least_rest last_causes bad_parent undefined_entry unfit_entry
    undefined_byte unfit too_many stray_first bad_bytes bad_node bad_rank formulas_check asks_too_many bad_wait ◌and_then◌ refuse_if refuse_at
    header_check rule_check table_check bad_word bad_record_word call_check table_verdict run_answer run_states run_causes form_check words_check
    record_check last_descendant sub_tree decimal_to table_length
rows_hold = refl
