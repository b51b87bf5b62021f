-- The few general notions that the definitions use: tests over a list of numbers, and the least number that passes a test. Assumes nothing.
use Rattle.std.specs.Prelude.{ℕ, zero, suc, ◌+◌, Bool, true, false, cond, ◌&&◌, ◌||◌, List, [], ◌∷◌, ◌++◌, eqb, Option, Some, None}

-- all numbers of a list pass a test
abbrev pub all : (ℕ → Bool) → List ℕ → Bool
all f [] = true
all f (k ∷ ks) = f k && all f ks

-- some number of a list passes a test
abbrev pub some : (ℕ → Bool) → List ℕ → Bool
some f [] = false
some f (k ∷ ks) = f k || some f ks

-- how many numbers of a list pass a test
abbrev pub count : (ℕ → Bool) → List ℕ → ℕ
count f [] = 0
count f (k ∷ ks) = cond (f k) 1 0 + count f ks

-- the number that no plan has: plan 0's bytes give it as its parent, and a search for a plan gives it where there is none
abbrev pub no_plan : ℕ
no_plan = 65535

-- the first number of a list that passes a test, or `no_plan`
abbrev pub first : (ℕ → Bool) → List ℕ → ℕ
first f [] = no_plan
first f (k ∷ ks) = cond (f k) k (first f ks)

-- two lists of bytes are the same
abbrev pub same : List ℕ → List ℕ → Bool
same [] [] = true
same [] (y ∷ ys) = false
same (x ∷ xs) [] = false
same (x ∷ xs) (y ∷ ys) = eqb x y && same xs ys

-- the least of the k numbers from p on that passes a test
unfoldable pub least_from : (ℕ → Bool) → ℕ → ℕ → Option ℕ
least_from f p zero = None
least_from f p (suc k) = elim (f p) [ true ↦ Some p | false ↦ least_from f (p + 1) k ]

-- the least number below n that passes a test
abbrev pub least : (ℕ → Bool) → ℕ → Option ℕ
least f n = least_from f 0 n

-- some number below n passes a test
unfoldable pub some_below : (ℕ → Bool) → ℕ → Bool
some_below f zero = false
some_below f (suc k) = some_below f k || f k

-- what a function gives for each number below n, in their order
unfoldable pub map_below : (ℕ → ℕ) → ℕ → List ℕ
map_below f zero = []
map_below f (suc k) = map_below f k ++ (f k ∷ [])

-- the lists that a function gives for each number below n, one behind the other
unfoldable pub join_below : (ℕ → List ℕ) → ℕ → List ℕ
join_below f zero = []
join_below f (suc k) = join_below f k ++ f k

-- the highest number below n that passes a test, or 0
unfoldable pub highest : (ℕ → Bool) → ℕ → ℕ
highest f zero = 0
highest f (suc k) = cond (f k) k (highest f k)
