-- What is known while the formulas of a table of version 2 are checked. Nobody has to believe this: how the code decides. Assumes nothing.
use Rattle.std.specs.Prelude.{ℕ, ◌+◌, ◌*◌, ◌≤◌, ◌<◌, ◌≡◌, Bool, false, not, ◌||◌, List, [], ◌∷◌, eqb, leb, length, get_or, set, min, Option}
use Rattle.std.specs.Bool.{then_some}
use Rattle.std.specs.Int.Count.{ones}
use Rattle.rules.specs.Bytes.{byte_at}
use Rattle.rules.specs.Lists.{count, some, some_below, highest}
use Rattle.rules.specs.Table.{plan_count, entry, named, children}
use Rattle.rules.specs.WaitFor.{operands, first_version, node_count, begins_with, first_nodes, asked_nodes, owner}
use Rattle.rules.specs.Answers.{asks_too_many}
use Rattle.children.specs.Sets.{set_of}
use Rattle.rules.specs.declared.Asks.{Asks}
use Rattle.rules.specs.declared.Asks.TheVariants.{Child, Not, Join, AtLeast}

-- a table of version 2 of n plans and k nodes, all of which have their place
pub record HasNodes (t : List ℕ) (n k : ℕ) : Type 0 where
  pub second : first_version t ≡ false
  pub whole : n ≡ plan_count t
  pub some : 0 < n
  pub small : n ≤ 256
  pub nodes : k ≡ node_count t
  pub room : 8 * n + 10 + 4 * k ≤ length t

-- how often node j has been used by the first p plans and the first i nodes, as far as a byte can tell
abbrev pub capped : ℕ → ℕ
capped c = min c 255

abbrev pub used_by : List ℕ → ℕ → ℕ → ℕ → ℕ
used_by t p i j = count (eqb j) (first_nodes t p) + count (eqb j) (asked_nodes t i)

-- the numbers of uses of all nodes, as far as a byte can name them
pub record Uses (t : List ℕ) (p i : ℕ) (buffer : List ℕ) : Type 0 where
  pub room : length buffer ≡ 256
  pub used : (j : ℕ) → j < 256 → byte_at buffer j ≡ capped (used_by t p i j)

-- the same after one more use of a node, and of each of some nodes
abbrev pub used_once_more : List ℕ → ℕ → List ℕ
used_once_more buffer j = set buffer j (min (byte_at buffer j + 1) 255)

abbrev pub used_each : List ℕ → List ℕ → List ℕ
used_each buffer [] = buffer
used_each buffer (j ∷ js) = used_each (used_once_more buffer j) js

-- an operand of node i is not above it or not below k
abbrev pub bad_operands : Asks → ℕ → ℕ → Bool
bad_operands asked i k = some (λ o. leb o i || leb k o) (operands asked)

-- the plans of the first n whose formulas begin with each node, the highest one where there are several, 0 where there is none
pub record FirstOwners (t : List ℕ) (n : ℕ) (owners : List ℕ) : Type 0 where
  pub room : length owners ≡ 256
  pub owned : (j : ℕ) → j < 256 → byte_at owners j ≡ highest (begins_with t j) n

-- owners after some nodes have become a plan's
abbrev pub owned_each : List ℕ → ℕ → List ℕ → List ℕ
owned_each owners p [] = owners
owned_each owners p (j ∷ js) = owned_each (set owners j p) p js

-- the owners of the first k nodes
pub record Owners (t : List ℕ) (k : ℕ) (owners : List ℕ) : Type 0 where
  pub room : k ≤ length owners
  pub owned : (j : ℕ) → j < k → byte_at owners j ≡ owner t j

-- the n plans' numbers of children and words of named children
pub record Children (t : List ℕ) (n : ℕ) (counts names : List ℕ) : Type 0 where
  pub counts_room : n ≤ length counts
  pub names_room : n ≤ length names
  pub counted : (q : ℕ) → q < n → byte_at counts q ≡ length (children t q)
  pub collected : (q : ℕ) → q < n → get_or names q 0 ≡ set_of t q (λ c. named (entry t c))

-- a node asks for the child of a rank that is not below a number of children, or for more children than are in a set
abbrev pub asks_beyond : Asks → ℕ → Bool
asks_beyond (Child r) count = leb count r
asks_beyond (Not a) count = false
asks_beyond (Join how a b) count = false
asks_beyond (AtLeast m) count = false

abbrev pub asks_more : Asks → ℕ → Bool
asks_more (Child r) names = false
asks_more (Not a) names = false
asks_more (Join how a b) names = false
asks_more (AtLeast m) names = not (leb m (ones names))

-- in the formula of plan p one of the first i nodes asks for too many
abbrev pub asking : List ℕ → ℕ → ℕ → Bool
asking t i p = some_below (asks_too_many t p) i

-- the owner of node i, where node i asks for too many of its children
abbrev pub asking_plan : List ℕ → ℕ → Option ℕ
asking_plan t i = then_some (asks_too_many t (owner t i) i) (owner t i)
