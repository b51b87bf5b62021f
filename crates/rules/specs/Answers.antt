-- Document 01, 'Answer numbers', as document 02 (i), (ii), (v) and (ix) widen them: the number and place of each refusal, those of (iii)
-- and (vi) among them, and, of documents 01 and 02 (i), (ii), (v), (ix), the test behind each, their order in each call, and what each call
-- answers and leaves. Assumes nothing.
use Prim.Native.Nat.{ℕ, zero, suc, ◌*◌, ◌-◌, ◌%◌, ◌^◌, ◌<◌}
use Rattle.std.specs.Prelude.{Bool, true, false, ◌&&◌, ◌||◌, ◌≡◌, List, map, length, take, Option, Result, Ok, Err, Some, None}
use Rattle.std.proofs.Math.Bool.{cond, not}
use Rattle.std.specs.Bool.{beq}
use Rattle.std.proofs.Math.Dec.{eqb, leb, ltb}
use Rattle.rules.specs.Lists.{some, some_below, count, same, no_plan, least}
use Rattle.rules.specs.Bytes.{byte_at, is_set, text}
use Rattle.rules.specs.Table.{
  version,
  plan_count,
  entry,
  body_of,
  is_body,
  of_two,
  retry_aborted,
  wait_for_optional,
  named,
  bit_of,
  conditions,
  parent,
  children,
  rank,
  is_or_is_above,
}
use Rattle.rules.specs.WaitFor.{first_version, node_count, node, asks, operands, table_size, is_leaf, uses, owner}
use Rattle.rules.specs.Words.{word, pick_of, pick_allowed, other_bits, contradicts}
use Rattle.rules.specs.Step.{chosen, step, causes}
use Rattle.rules.specs.HandedIn.{bad_state}
use Rattle.rules.specs.Rest.{after, least_rest, steps_taken, last_causes}
use Rattle.rules.specs.Record.{Choosing, step_size, step_count, words_of, ExplainedFirstBy}
use Rattle.rules.specs.declared.Body.{Body}
use Rattle.rules.specs.declared.Body.TheVariants.{Leaf}
use Rattle.rules.specs.declared.PlanEntry.{PlanEntry}
use Rattle.rules.specs.declared.Node.{Node}
use Rattle.rules.specs.declared.Place.{Place}
use Rattle.rules.specs.declared.Refusal.{Refusal}
use Rattle.rules.specs.declared.Refusal.TheVariants.{
  TableShort,
  TableMark,
  TableVersion,
  TableCount,
  TableLength,
  Parent,
  Undefined,
  Unfit,
  Wait,
  Lengths,
  State,
  Word,
  RecordHeader,
  RecordLength,
  Unexplained,
  InputLong,
  RuleNumber,
  ValueRange,
  ManySamples,
  TimesOrder,
  NoInterval,
  Formula,
  NodeKind,
  OutputShort,
  NormalRange,
}

-- number, step and plan; unnamed places are 0
abbrev pub placed : ℕ → ℕ → ℕ → Place
placed number step plan = record { number = number; step = step; plan = plan }

abbrev pub place : Refusal → Place
place TableShort = placed 1 0 0
place TableMark = placed 2 0 0
place TableVersion = placed 3 0 0
place TableCount = placed 4 0 0
place TableLength = placed 5 0 0
place (Parent p) = placed 6 0 p
place (Undefined p) = placed 7 0 p
place (Unfit p) = placed 8 0 p
place (Wait p) = placed 9 0 p
place Lengths = placed 10 0 0
place (State p) = placed 11 0 p
place (Word i p) = placed 12 i p
place RecordHeader = placed 13 0 0
place RecordLength = placed 14 0 0
place (Unexplained i p) = placed 15 i p
place InputLong = placed 16 0 0
place RuleNumber = placed 17 0 0
place ValueRange = placed 18 0 0
place ManySamples = placed 19 0 0
place TimesOrder = placed 20 0 0
place NoInterval = placed 21 0 0
place (Formula i) = placed 22 0 i
place NodeKind = placed 23 0 0
place OutputShort = placed 24 0 0
place NormalRange = placed 26 0 0

-- what a check or a step answers: done, or why it is refused
abbrev pub Outcome : Type 0
Outcome = Result (Unit {0}) Refusal

abbrev pub Done : Outcome
Done = Ok tt

-- what a whole table answers, with its plans, a whole record, with its steps, and a table that is moved, with the bytes written
abbrev pub Verdict : Type 0
Verdict = Result ℕ Refusal

-- what a run to rest answers: the steps that it took, or no number where it still moves
abbrev pub Rest : Type 0
Rest = Result (Option ℕ) Refusal

-- what a question for the most steps to rest answers: so many, or no number where no figure is known
abbrev pub Figure : Type 0
Figure = Result (Option ℕ) Refusal

-- one check, and if it finds nothing the next
infixr 10 ◌and_then◌
unfoldable pub ◌and_then◌ : Outcome → Outcome → Outcome
Ok tt and_then next = next
Err why and_then next = Err why

abbrev pub is_done : Outcome → Bool
is_done (Ok tt) = true
is_done (Err why) = false

-- refused if a test says so
unfoldable pub refuse_if : Bool → Refusal → Outcome
refuse_if b why = cond b (Err why) Done

-- refused at the plan, or at the node, that was found
unfoldable pub refuse_at : (ℕ → Refusal) → Option ℕ → Outcome
refuse_at why None = Done
refuse_at why (Some p) = Err (why p)

-- rules are 1, document 01's own, and 2
abbrev pub is_rule : ℕ → Bool
is_rule rule = eqb rule 1 || eqb rule 2

-- 17: another rule number
unfoldable pub rule_check : ℕ → Outcome
rule_check rule = refuse_if (not (is_rule rule)) RuleNumber

-- 2, and a part of 13: the first three bytes are another mark
abbrev pub wrong_mark : List ℕ → List ℕ → Bool
wrong_mark mark s = not (same (take 3 s) mark)

-- 7: the body is above 8, or there is an unused bit: byte 3 has three bits, bytes 4 to 6 have six
unfoldable pub undefined_entry : PlanEntry → Bool
undefined_entry e =
    ltb 8 e.body
    || leb (2 ^ 3) e.flags
    || leb (2 ^ 6) e.present
    || leb (2 ^ 6) e.manual
    || leb (2 ^ 6) e.overridable

-- a manual or overridable condition, at bit k, that is absent
abbrev pub stray_at : PlanEntry → ℕ → Bool
stray_at e k = (is_set k e.manual || is_set k e.overridable) && not (is_set k e.present)

-- body against children (leaf exactly when there are none); manual or overridable on an absent condition; root named; leaf with m, or
-- byte 7 in version 2, or flag bits 0, 1
abbrev pub unfit_any : ℕ → ℕ → PlanEntry → Bool
unfit_any p child_count e =
    let leaf : Bool = is_body Leaf (body_of e) in
    not (beq leaf (eqb child_count 0))
    || some (stray_at e) (map bit_of conditions)
    || eqb p 0 && named e
    || leaf && (not (eqb e.wait 0) || retry_aborted e || wait_for_optional e)

-- a body of two children with another number of them, or with retry-aborted
abbrev pub unfit_two : ℕ → PlanEntry → Bool
unfit_two child_count e = of_two (body_of e) && (not (eqb child_count 2) || retry_aborted e)

-- 8, of plan p with so many children
unfoldable pub unfit_entry : ℕ → ℕ → PlanEntry → Bool
unfit_entry p child_count e = unfit_any p child_count e || unfit_two child_count e

-- 22, by a node's own bytes: a kind above 5, the last byte, or b where the kind does not use it, not 0
unfoldable pub bad_bytes : Node → Bool
bad_bytes e =
    ltb 5 e.kind || not (eqb e.last 0) || ltb (length (operands (asks e))) 2 && not (eqb e.b 0)

-- 12, by the plan's body and whether the pick is allowed: an unused bit, a wrong pick, or filter, setup or if-then-else satisfied but
-- not satisfiable
abbrev pub wrong_word_if : Body → Bool → ℕ → Bool
wrong_word_if body allowed x = other_bits body x || not allowed || contradicts x

-- 12, of a plan with this entry and so many children
unfoldable pub wrong_word : PlanEntry → ℕ → ℕ → Bool
wrong_word e child_count x = wrong_word_if (body_of e) (pick_allowed (body_of e) child_count (pick_of x)) x

module _ (t : List ℕ) where
  -- the parent rule is broken: plan 0's parent is 65535, any other's is the plan before it or an ancestor of that one
  unfoldable pub unrooted : ℕ → Bool
  unfolding is_or_is_above
  unrooted zero = not (eqb (parent t 0) no_plan)
  unrooted (suc k) = not (is_or_is_above t (parent t (suc k)) k k)

  -- 6: the parent rule is broken, or rank 64, which would be a 65th child's
  unfoldable pub bad_parent : ℕ → Bool
  unfolding unrooted rank
  bad_parent p = unrooted p || leb 64 (rank t p)

  -- 7
  unfoldable pub undefined_byte : ℕ → Bool
  unfolding undefined_entry
  undefined_byte p = undefined_entry (entry t p)

  -- 8
  unfoldable pub unfit : ℕ → Bool
  unfolding children unfit_entry
  unfit p = unfit_entry p (length (children t p)) (entry t p)

  -- m is above the number of plan p's named children
  unfoldable pub too_many : ℕ → ℕ → Bool
  unfolding children
  too_many p m = ltb (count (λ c. named (entry t c)) (children t p)) m

  -- 22, place 0: the formula of a plan with children begins with a node that is not there
  unfoldable pub stray_first : ℕ → Bool
  stray_first p = not (is_leaf t p) && leb (node_count t) (entry t p).wait

  -- 22: node i breaks a rule by its own bytes, has an operand whose number is not higher or not there, or is not used exactly once
  unfoldable pub bad_node : ℕ → Bool
  unfolding bad_bytes uses
  bad_node i =
      bad_bytes (node t i)
      || some (λ o. leb o i || leb (node_count t) o) (operands (asks (node t i)))
      || not (eqb (uses t i) 1)

  -- 22: node i is of kind 0, and its rank is not below the number of children of the plan in whose formula it stands
  unfoldable pub bad_rank : ℕ → Bool
  unfolding children owner
  bad_rank i = eqb (node t i).kind 0 && leb (length (children t (owner t i))) (node t i).a

  -- 22, of a table of version 2: a rank is read once all else holds
  unfoldable pub formulas_check : Outcome
  unfolding stray_first bad_node bad_rank
  formulas_check =
      refuse_if (ltb 256 (node_count t)) (Formula 0)
      and_then refuse_at (λ p. Formula 0) (least stray_first (plan_count t))
      and_then refuse_at Formula (least bad_node (node_count t))
      and_then refuse_at Formula (least bad_rank (node_count t))

  -- node i stands in the formula of plan p, is of kind 5 and asks for too many
  unfoldable pub asks_too_many : ℕ → ℕ → Bool
  unfolding too_many owner
  asks_too_many p i = eqb (owner t i) p && eqb (node t i).kind 5 && too_many p (node t i).a

  -- 9: m, or in version 2 the number of a node of kind 5 in the plan's formula, is above the number of named children
  unfoldable pub bad_wait : ℕ → Bool
  unfolding too_many asks_too_many some_below
  bad_wait p = cond (first_version t) (too_many p (entry t p).wait) (some_below (asks_too_many p) (node_count t))

  -- 1 to 4
  unfoldable pub header_check : Outcome
  header_check =
      refuse_if (ltb (length t) 8) TableShort
      and_then refuse_if (wrong_mark (text "APT") t) TableMark
      and_then refuse_if (not (eqb (version t) 1 || eqb (version t) 2)) TableVersion
      and_then refuse_if (ltb (plan_count t) 1 || ltb 256 (plan_count t) || not (eqb (byte_at t 7) 0)) TableCount

  -- 7, 8, 22, 9
  unfoldable pub plans_check : Outcome
  unfolding undefined_byte unfit formulas_check bad_wait
  plans_check =
      refuse_at Undefined (least undefined_byte (plan_count t))
      and_then refuse_at Unfit (least unfit (plan_count t))
      and_then cond (first_version t) Done formulas_check
      and_then refuse_at Wait (least bad_wait (plan_count t))

  -- 1 to 8, 22, 9, one number over the whole table before the next
  unfoldable pub table_check : Outcome
  unfolding header_check bad_parent plans_check
  table_check =
      header_check
      and_then refuse_if (not (eqb (length t) (table_size t))) TableLength
      and_then refuse_at Parent (least bad_parent (plan_count t))
      and_then plans_check

  -- what reading a table answers: a good one its number of plans
  unfoldable pub table_verdict : Verdict
  unfolding table_check
  table_verdict = elim table_check [ Ok tt ↦ Ok (plan_count t) | Err why ↦ Err why ]

  -- 12
  unfoldable pub bad_word : List ℕ → ℕ → Bool
  unfolding children wrong_word
  bad_word w p = wrong_word (entry t p) (length (children t p)) (word w p)

  -- 12 in a record: any pick bit is wrong
  unfoldable pub bad_record_word : List ℕ → ℕ → Bool
  bad_record_word w p = wrong_word_if (body_of (entry t p)) (eqb (pick_of (word w p)) 0) (word w p)

  -- 12, of all words of a call
  abbrev pub call_words_check : List ℕ → Outcome
  call_words_check w = refuse_at (Word 0) (least (bad_word w) (plan_count t))

  -- 10: the states, the words or the causes have another length
  abbrev pub wrong_lengths : List ℕ → List ℕ → List ℕ → Bool
  wrong_lengths s w c =
      not (eqb (length s) (plan_count t)) || not (eqb (length w) (4 * plan_count t)) || not (eqb (length c) (plan_count t))

  -- 10 to 12
  unfoldable pub lent_check : List ℕ → List ℕ → List ℕ → Outcome
  unfolding bad_state bad_word
  lent_check s w c =
      refuse_if (wrong_lengths s w c) Lengths
      and_then refuse_at State (least (bad_state t s) (plan_count t))
      and_then call_words_check w

-- what the run answers
abbrev pub rest_answer : Option ℕ → Rest
rest_answer found = Ok found

-- A call of the step or the run by a rule: 17, then the table's, then 10 to 12. It is lent states s, words w and a buffer c for causes.
module _ (rule : ℕ) (t s w c : List ℕ) where
  unfoldable pub call_check : Outcome
  unfolding rule_check table_check lent_check
  call_check = rule_check rule and_then table_check t and_then lent_check t s w c

  -- what the step answers, and the states and causes that it leaves: no refusal changes lent bytes
  abbrev pub step_answer : Outcome
  step_answer = call_check

  abbrev pub step_states : List ℕ
  step_states = elim call_check [ Ok tt ↦ step rule t s w | Err why ↦ s ]

  abbrev pub step_causes : List ℕ
  step_causes = elim call_check [ Ok tt ↦ causes rule t s w | Err why ↦ c ]

  -- what the run answers, and the states and causes that it leaves
  unfoldable pub run_answer : ℕ → Rest
  unfolding call_check least_rest
  run_answer budget = elim call_check [ Ok tt ↦ rest_answer (least_rest rule t s w budget) | Err why ↦ Err why ]

  unfoldable pub run_states : ℕ → List ℕ
  unfolding call_check least_rest after
  run_states budget = elim call_check [ Ok tt ↦ after rule t s w (steps_taken rule t s w budget) | Err why ↦ s ]

  unfoldable pub run_causes : ℕ → List ℕ
  unfolding call_check least_rest last_causes
  run_causes budget = elim call_check [ Ok tt ↦ last_causes rule t s w (steps_taken rule t s w budget) | Err why ↦ c ]

-- The checker's own checks.
module _ (t r : List ℕ) where
  -- 13: under 8 bytes, another mark, version or n, or byte 7 not 0
  abbrev pub wrong_header : Bool
  wrong_header =
      ltb (length r) 8
      || wrong_mark (text "APR") r
      || not (eqb (version r) 1)
      || not (eqb (plan_count r) (plan_count t))
      || not (eqb (byte_at r 7) 0)

  -- 13 and 14
  unfoldable pub form_check : Outcome
  form_check =
      refuse_if wrong_header RecordHeader
      and_then refuse_if (not (eqb ((length r - 8) % step_size t r) 0) || ltb 65535 (step_count t r)) RecordLength

  -- 12 in step i
  unfoldable pub words_check : ℕ → Outcome
  unfolding bad_record_word
  words_check i = refuse_at (Word (suc i)) (least (bad_record_word t (words_of t r i)) (plan_count t))

-- The checker by a rule: 17, the table's, 13, 14, then step by step 12 before 15.
module _ (rule : ℕ) (t r : List ℕ) where
  unfoldable pub record_check : Outcome
  unfolding rule_check table_check form_check
  record_check = rule_check rule and_then table_check t and_then form_check t r

-- As any-order plans choose.
module _ (choosing : Choosing) (rule : ℕ) (t r : List ℕ) where
  -- step i passes: its words do, and some picks explain all its states
  pub record StepPassesBy (i : ℕ) : Type 0 where
    pub words : words_check t r i ≡ Done
    pub states : ExplainedFirstBy choosing rule t r i (plan_count t)

  -- the verdicts that are permitted
  pub data JudgedBy : Verdict → Type 0 where
    malformed : {why : Refusal} → record_check rule t r ≡ Err why → JudgedBy (Err why)
    bad_words :
        {why : Refusal} (i : ℕ) → record_check rule t r ≡ Done → i < step_count t r → ((j : ℕ) → j < i → StepPassesBy j)
        → words_check t r i ≡ Err why
        → JudgedBy (Err why)
    -- 15: p is the lowest plan such that no picks explain plans 0 to p
    unexplained :
        (i p : ℕ) → record_check rule t r ≡ Done → i < step_count t r → ((j : ℕ) → j < i → StepPassesBy j) → words_check t r i ≡ Done
        → p < plan_count t → ((j : ℕ) → j < p → ExplainedFirstBy choosing rule t r i (suc j))
        → (ExplainedFirstBy choosing rule t r i (suc p) → ⊥)
        → JudgedBy (Err (Unexplained (suc i) p))
    accepted :
        record_check rule t r ≡ Done → ((i : ℕ) → i < step_count t r → StepPassesBy i)
        → JudgedBy (Ok (step_count t r))

abbrev pub StepPasses : ℕ → List ℕ → List ℕ → ℕ → Type 0
StepPasses = StepPassesBy chosen

abbrev pub Judged : ℕ → List ℕ → List ℕ → Verdict → Type 0
Judged = JudgedBy chosen
