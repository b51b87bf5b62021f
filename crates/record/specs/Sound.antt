-- What is known before the steps of a record are gone through. Assumes nothing.
use Rattle.std.specs.Prelude.{ℕ, ◌≡◌, List}
use Rattle.rules.specs.Answers.{record_check, Done}
use Rattle.table.specs.Facts.{Prepared}

-- a rule, a table that passes, its facts, and a record of good form
pub record Sound (rule : ℕ) (t r ranks names : List ℕ) : Type 0 where
  pub done : record_check rule t r ≡ Done
  pub prepared : Prepared t ranks names
