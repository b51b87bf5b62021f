-- What one line of a text says. Assumes nothing.
use Rattle.std.specs.Prelude.{ℕ, ◌+◌, ◌%◌, ◌^◌, Bool, true, false, cond, ◌||◌, List, length, ◌==◌, slice_index, Option, None, Some, Result, Ok, Err}
use Rattle.std.specs.Str.{bytes_eq}
use Rattle.rules.specs.Bytes.{text}
use Rattle.statements.specs.Words.{word, after, ends, no_bound, number, bound, truth}
use Rattle.statements.specs.declared.Pair.{Pair}
use Rattle.statements.specs.declared.Pair.TheVariants.{Start, Finish, Lasts}
use Rattle.statements.specs.declared.Single.{Single}
use Rattle.statements.specs.declared.Single.TheVariants.{From, Asked}
use Rattle.statements.specs.declared.Fault.{Fault}
use Rattle.statements.specs.declared.Fault.TheVariants.{Unknown, NoNumber, NoDots, NoTruth, More}
use Rattle.statements.specs.declared.Saying.{Saying}
use Rattle.statements.specs.declared.Saying.TheVariants.{Nothing, Bounds, One, Sample}

-- start A .. B, finish A .. B, lasts A .. B
abbrev pub say_bounds : Pair → Option ℕ → Bool → Option ℕ → Bool → Result Saying Fault
say_bounds pair None dots b ended = Err NoNumber
say_bounds pair (Some x) false b ended = Err NoDots
say_bounds pair (Some x) true None ended = Err NoNumber
say_bounds pair (Some x) true (Some y) false = Err More
say_bounds pair (Some x) true (Some y) true = Ok (Bounds pair x y)

-- `_` is an open bound, and as the least duration 0
abbrev pub unbound : Pair → ℕ
unbound Start = no_bound
unbound Finish = no_bound
unbound Lasts = 0

unfoldable pub bounds : Pair → List ℕ → Result Saying Fault
bounds pair s =
    say_bounds pair (bound (word s) (unbound pair)) (bytes_eq (word (after s)) (text "..")) (bound (word (after (after s))) no_bound)
    (ends (after (after (after s))))

-- from N, asked N
abbrev pub say_one : Single → Option ℕ → Bool → Result Saying Fault
say_one single None ended = Err NoNumber
say_one single (Some x) false = Err More
say_one single (Some x) true = Ok (One single x)

unfoldable pub one : Single → List ℕ → Result Saying Fault
one single s = say_one single (number (word s)) (ends (after s))

-- at N true, at N false: twice the minute, and 1 where true
abbrev pub sample : ℕ → Bool → ℕ
sample minute held = (minute + minute + cond held 1 0) % 2 ^ 64

abbrev pub say_at : Option ℕ → Option Bool → Bool → Result Saying Fault
say_at None t ended = Err NoNumber
say_at (Some x) None ended = Err NoTruth
say_at (Some x) (Some t) false = Err More
say_at (Some x) (Some t) true = Ok (Sample (sample x t))

unfoldable pub at : List ℕ → Result Saying Fault
at s = say_at (number (word s)) (truth (word (after s))) (ends (after (after s)))

-- what a line says by its first word; with no word, or one that begins with `#`, it says nothing
unfoldable pub statement : List ℕ → List ℕ → Result Saying Fault
statement w s =
    cond (bytes_eq w (text "start")) (bounds Start s)
    (cond (bytes_eq w (text "finish")) (bounds Finish s)
    (cond (bytes_eq w (text "lasts")) (bounds Lasts s)
    (cond (bytes_eq w (text "from")) (one From s)
    (cond (bytes_eq w (text "at")) (at s)
    (cond (bytes_eq w (text "asked")) (one Asked s) (Err Unknown))))))

unfoldable pub says : List ℕ → Result Saying Fault
says line =
    cond (length (word line) == 0 || slice_index (word line) 0 == 35) (Ok Nothing) (statement (word line) (after line))
