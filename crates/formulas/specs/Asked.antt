-- What wait-for of a plan asks for, as the code keeps it, and what is known of a table whose formulas are evaluated. Nobody has to believe
-- this: how the code decides. Assumes nothing.
use Rattle.std.specs.Prelude.{ℕ, ◌+◌, ◌*◌, ◌≤◌, ◌<◌, ◌≡◌, Bool, false, cond, ◌||◌, List, leb, length, get_or}
use Rattle.rules.specs.Lists.{some}
use Rattle.rules.specs.Table.{plan_count, entry, named}
use Rattle.rules.specs.WaitFor.{asks, operands, first_version, node_count, node, is_leaf, formula_holds, wait_for}
use Rattle.rules.specs.Answers.{stray_first}
use Rattle.children.specs.Sets.{set_of}
use Rattle.rules.specs.declared.Asks.{Asks}
use Rattle.rules.specs.declared.Asks.TheVariants.{Child, Not, Join, AtLeast}

-- a number of named children, or 256 for what is no number
abbrev pub number_in : Asks → ℕ
number_in (Child r) = 256
number_in (Not a) = 256
number_in (Join how a b) = 256
number_in (AtLeast m) = m

-- how many named children wait-for of plan p asks for, or 256: its wait number, none of a leaf, or what its first node says
unfoldable pub number_asked : List ℕ → ℕ → ℕ
number_asked t p =
    let wait : ℕ = (entry t p).wait in
    cond (first_version t) wait (cond (is_leaf t p) 0 (number_in (asks (node t wait))))

-- the nodes of a table of version 2 have their place, each operand is above its node and there, and so is each plan's first node
pub record Formed (t : List ℕ) : Type 0 where
  pub room : 8 * plan_count t + 10 + 4 * node_count t ≤ length t
  pub few : node_count t ≤ 256
  pub up : (i : ℕ) → i < node_count t → some (λ o. leb o i || leb (node_count t) o) (operands (asks (node t i))) ≡ false
  pub first : (p : ℕ) → p < plan_count t → stray_first t p ≡ false

-- a table of n plans, and of nodes if it is of version 2
pub record Waiting (t : List ℕ) (n : ℕ) : Type 0 where
  pub whole : n ≡ plan_count t
  pub small : n ≤ 256
  pub room : 8 * n + 8 ≤ length t
  pub formed : first_version t ≡ false → Formed t

-- of the words behind the first n the first p were written, the numbers that as many plans ask for; all others stay
pub record Numbered (t : List ℕ) (n p : ℕ) (old new : List ℕ) : Type 0 where
  pub long : length new ≡ length old
  pub numbers : (q : ℕ) → q < p → get_or new (n + q) 0 ≡ number_asked t q
  pub before : (k : ℕ) → k < n → get_or new k 0 ≡ get_or old k 0
  pub rest : (k : ℕ) → n + p ≤ k → get_or new k 0 ≡ get_or old k 0

-- of plan p its named children and the number asked for are at hand
pub record WaitKnown (t : List ℕ) (n : ℕ) (names : List ℕ) (p : ℕ) : Type 0 where
  pub table : Waiting t n
  pub within : p < n
  pub names_room : n + n ≤ length names
  pub collected : get_or names p 0 ≡ set_of t p (λ c. named (entry t c))
  pub number : get_or names (n + p) 0 ≡ number_asked t p

-- whether the formula that begins with node i, and whether wait-for of plan p holds of the children that pass a test, whose word `set` is
abbrev pub TellsFormula : List ℕ → ℕ → ℕ → ℕ → Bool → Type 0
TellsFormula t names set i r =
    (q : ℕ) (f : ℕ → Bool) (k : ℕ) → names ≡ set_of t q (λ c. named (entry t c)) → set ≡ set_of t q f → 256 ≤ k + i
    → r ≡ formula_holds t q f k i

abbrev pub TellsWaitFor : List ℕ → ℕ → ℕ → Bool → Type 0
TellsWaitFor t p set r = (f : ℕ → Bool) → set ≡ set_of t p f → r ≡ wait_for t p f
