-- How long an input's table is, and what the verdict on its two parts answers. Assumes nothing.
use Rattle.std.proofs.Common.{◌≡◌, ℕ, ◌-◌, ◌<◌, ◌≤◌, List, length, take, drop, Bool, true, false, cond, leb, min, Err, arith, refl}
use borrow.Author.Tests.{leb-true, leb-false}
use borrow.Author.Rules.{part_to_end}
use Rattle.rules.specs.WaitFor.{table_size}
use Rattle.rules.specs.Answers.{header_check, Judged, Verdict, Done}
use Rattle.rules.specs.Program.{table_length, Answered, too_long, judged}
use Rattle.rules.specs.declared.Refusal.{Refusal}
use Rattle.rules.specs.declared.Refusal.TheVariants.{InputLong}

module _ (input : List ℕ) where
  pub all_of_refused : (why : Refusal) → header_check input ≡ Err why → table_length input ≡ length input
  unfolding table_length
  all_of_refused why e = simp e

  pub table_or_all : header_check input ≡ Done → table_length input ≡ min (table_size input) (length input)
  unfolding table_length
  table_or_all done = simp done (less (leb (table_size input) (length input)) refl)
    where
      less : (b : Bool) → leb (table_size input) (length input) ≡ b → cond b (table_size input) (length input) ≡ min (table_size input) (length input)
      less true e = omega (arith, leb-true _ _ e)
      less false e = omega (arith, leb-false _ _ e)

  pub long : 65536 < length input → Answered input (Err InputLong)
  long l = too_long l

  -- the verdict on the two parts, as the code cuts them
  pub answers :
      {v : Verdict} (k : ℕ) → k ≡ table_length input → length input ≤ 65536
      → Judged 2 (take k input) (take (length input - k) (drop k input)) v
      → Answered input v
  answers k e l j = judged l (rw (part_to_end input k, e) at j)
