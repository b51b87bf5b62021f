-- Document 01: the program `aprcheck`, from the bytes of its input to the bytes of its line; it uses rule 2, by document 02 (ii), and
-- ends a table of version 2 behind its nodes, by (v). Assumes nothing.
use Prim.Native.Nat.{ℕ, zero, suc, ◌+◌, ◌/◌, ◌%◌, ◌<◌, ◌≤◌}
use Rattle.std.proofs.Math.Bool.{cond}
use Rattle.std.specs.Prelude.{◌&&◌, ◌≡◌, List, [], ◌∷◌, ◌++◌, length, take, drop, ltb, Ok, Err}
use Rattle.std.proofs.Math.Dec.{leb}
use Rattle.rules.specs.Bytes.{text}
use Rattle.rules.specs.Table.{plan_count}
use Rattle.rules.specs.WaitFor.{table_size}
use Rattle.rules.specs.Answers.{place, is_done, header_check, Judged, Verdict}
use Rattle.rules.specs.declared.Refusal.TheVariants.{InputLong}

-- a number in decimal, of at most `more` digits and one; the number itself is more than enough
unfoldable pub decimal_to : ℕ → ℕ → List ℕ
decimal_to zero x = (48 + x % 10) ∷ []
decimal_to (suc more) x = cond (ltb x 10) [] (decimal_to more (x / 10)) ++ ((48 + x % 10) ∷ [])

abbrev pub decimal : ℕ → List ℕ
decimal x = decimal_to x x

-- the line for a verdict on a table of n plans
abbrev pub line : ℕ → Verdict → List ℕ
line n (Ok steps) = text "accepted " ++ decimal n ++ text " " ++ decimal steps ++ text "\n"
line n (Err why) =
    text "refused "
    ++ decimal (place why).number
    ++ text " "
    ++ decimal (place why).step
    ++ text " "
    ++ decimal (place why).plan
    ++ text "\n"

module _ (input : List ℕ) where
  -- the table is the bytes to the end of its plans, or of its nodes; all bytes if there are fewer or if the first 8 are missing or refused
  unfoldable pub table_length : ℕ
  unfolding header_check
  table_length =
      let whole : ℕ = table_size input in
      cond (is_done (header_check input) && leb whole (length input)) whole (length input)

  abbrev pub table_of : List ℕ
  table_of = take table_length input

  -- the record is the rest
  abbrev pub record_of : List ℕ
  record_of = drop table_length input

  -- the verdicts that are permitted on an input: 16 is looked for first, and the rule is 2
  pub data Answered : Verdict → Type 0 where
    too_long : 65536 < length input → Answered (Err InputLong)
    judged : {v : Verdict} → length input ≤ 65536 → Judged 2 table_of record_of v → Answered v

  -- the line that is printed, n being the plan count
  pub record Printed (out : List ℕ) : Type 0 where
    pub verdict : Verdict
    pub answered : Answered verdict
    pub printed : out ≡ line (plan_count input) verdict
