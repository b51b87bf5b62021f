-- What a host program written in C is answered: one 64-bit number that holds a number, a plan and a step. Assumes nothing.
use Rattle.std.specs.Prelude.{ℕ, ◌+◌, ◌*◌, ◌%◌, ◌^◌, ◌≡◌, cond, ◌&&◌, List, [], ◌∷◌, get_or, eqb, leb, Result, Ok, Err, Some, None}
use Rattle.rules.specs.Answers.{place, Judged, Outcome, Verdict, Rest, Figure}
use Rattle.rules.specs.Bytes.{is_set}
use Rattle.rules.specs.Words.{with_pattern}
use Rattle.rules.specs.declared.Condition.TheVariants.{Filter, Setup, Suspend, Reactivate, Abort, Complete}
use Rattle.rules.specs.declared.Pattern.{Pattern}
use Rattle.rules.specs.declared.Pattern.TheVariants.{Of, If}
use Rattle.rules.specs.declared.Refusal.{Refusal}
use Rattle.time.specs.Patterns as time
use Rattle.time.specs.Normal.{Normalised}
use Rattle.time.specs.declared.Judgement.{Judgement}
use Rattle.time.specs.declared.Judgement.TheVariants as judgement

-- the number in bits 0 to 15, the plan in bits 16 to 31, the step in bits 32 to 47
abbrev pub packed : ℕ → ℕ → ℕ → ℕ
packed number step plan = number + plan * 2 ^ 16 + step * 2 ^ 32

-- a refusal: its answer number, 1 to 26, and its place; unnamed places are 0
abbrev pub packed_refusal : Refusal → ℕ
packed_refusal why = packed (place why).number (place why).step (place why).plan

-- the step: done is 0
abbrev pub packed_outcome : Outcome → ℕ
packed_outcome (Ok tt) = packed 0 0 0
packed_outcome (Err why) = packed_refusal why

-- the run to rest: rested after k has number 0, plan 0 and k as its step; still moving has number 0, plan 1 and the budget as its step
abbrev pub packed_rest : ℕ → Rest → ℕ
packed_rest budget (Ok (Some k)) = packed 0 k 0
packed_rest budget (Ok None) = packed 0 budget 1
packed_rest budget (Err why) = packed_refusal why

-- the most steps to rest: a figure has number 0, plan 0 and the figure as its step; where none is known, number 0, plan 1 and step 0
abbrev pub packed_bound : Figure → ℕ
packed_bound (Ok (Some k)) = packed 0 k 0
packed_bound (Ok None) = packed 0 0 1
packed_bound (Err why) = packed_refusal why

-- the checker: accepted has number 0, plan 0 and the number of steps as its step; a move the number of bytes written
abbrev pub packed_verdict : Verdict → ℕ
packed_verdict (Ok steps) = packed 0 steps 0
packed_verdict (Err why) = packed_refusal why

-- an answer of the checker by a rule on a table and a record: a verdict that is permitted on them, packed
pub record Told (rule : ℕ) (t r : List ℕ) (answer : ℕ) : Type 0 where
  pub verdict : Verdict
  pub judged : Judged rule t r verdict
  pub told : answer ≡ packed_verdict verdict

-- whether a pattern is satisfied: number 0, step 0, and as its plan 1 for satisfied plus 2 for satisfiable, so that 1 is never alone
abbrev pub packed_judgement : Result Judgement Refusal → ℕ
packed_judgement (Ok (judgement.Satisfied t1 t2)) = packed 0 0 (1 + 2)
packed_judgement (Ok judgement.Satisfiable) = packed 0 0 2
packed_judgement (Ok judgement.Neither) = packed 0 0 0
packed_judgement (Err why) = packed_refusal why

-- an answer about an annotation l, a history h and a minute of asking z: one that is permitted, packed
pub record PatternTold (l h : List ℕ) (z answer : ℕ) : Type 0 where
  pub judgement : Result Judgement Refusal
  pub judged : time.Judged l h z judgement
  pub told : answer ≡ packed_judgement judgement

-- an answer of normalising the numbers l, which leaves m of them
pub record NormalTold (l m : List ℕ) (answer : ℕ) : Type 0 where
  pub outcome : Outcome
  pub normalised : Normalised l outcome m
  pub told : answer ≡ packed_outcome outcome

-- the pattern that a number stands for: of a condition its bit, and 6 of if-then-else (`with_answer` asks it of no higher number)
abbrev pub pattern_of : ℕ → Pattern
pattern_of condition = get_or (Of Filter ∷ Of Setup ∷ Of Suspend ∷ Of Reactivate ∷ Of Abort ∷ Of Complete ∷ []) condition If

-- a word with what asbru_pattern answered of a condition; as it was where the answer's number is not 0 or no condition has this number. Of
-- any other call's answer with number 0 it would read the same two bits
abbrev pub with_answer : ℕ → ℕ → ℕ → ℕ
with_answer word condition answer =
    cond (eqb (answer % 2 ^ 16) 0 && leb condition 6) (with_pattern (pattern_of condition) (is_set 16 answer) (is_set 17 answer) word) word
