-- What reads of the input come to. Assumes nothing: that the system's answers are true is not said here.
use Rattle.std.specs.Prelude.{ℕ, cond, eqb, Result, Ok, Err, Option, None, Some}

-- what a reader's answer to a read into some room means: an error is a failure, 0 the end of the input
abbrev pub came : {E : Type 0} → Result ℕ E → Result (Option ℕ) E
came (Ok k) = cond (eqb k 0) (Ok None) (Ok (Some k))
came (Err e) = Err e
