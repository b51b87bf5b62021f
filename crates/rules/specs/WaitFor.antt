-- Wait-for: document 01's wait number, and document 02 (v): the nodes of a table of version 2, the formulas that they make, and the plan
-- in whose formula a node stands. Assumes nothing.
use Prim.Native.Nat.{ℕ, zero, suc, ◌+◌, ◌*◌}
use Rattle.std.specs.Prelude.{Bool, not, ◌&&◌, ◌||◌, List, [], ◌∷◌, ◌++◌, map, get_or, eqb, leb}
use Rattle.std.proofs.Math.Bool.{false, cond}
use Rattle.std.specs.Bool.{beq}
use Rattle.rules.specs.Lists.{count, some, some_below, highest}
use Rattle.rules.specs.Bytes.{byte_at, u16_at}
use Rattle.rules.specs.Table.{version, plan_count, entry, body_of, is_body, named, children}
use Rattle.rules.specs.declared.Body.TheVariants.{Leaf}
use Rattle.rules.specs.declared.Node.{Node}
use Rattle.rules.specs.declared.Asks.{Asks}
use Rattle.rules.specs.declared.Asks.TheVariants.{Child, Not, Join, AtLeast}
use Rattle.rules.specs.declared.Joint.{Joint}
use Rattle.rules.specs.declared.Joint.TheVariants.{And, Or, Xor}

-- what a node asks, by its kind: 0 the child of rank a, 1 not, 2 and, 3 or, 4 xor, 5 at least a named children. A kind above 5 is none: it
-- counts as the last, and check 22 refuses it
abbrev pub asks : Node → Asks
asks e =
    let a : ℕ = e.a in
    let b : ℕ = e.b in
    get_or (Child a ∷ Not a ∷ Join And a b ∷ Join Or a b ∷ Join Xor a b ∷ []) e.kind (AtLeast a)

-- two truths, joined
abbrev pub joined : Joint → Bool → Bool → Bool
joined And a b = a && b
joined Or a b = a || b
joined Xor a b = not (beq a b)

-- the nodes that it asks
abbrev pub operands : Asks → List ℕ
operands (Child r) = []
operands (Not a) = a ∷ []
operands (Join how a b) = a ∷ b ∷ []
operands (AtLeast m) = []

module _ (t : List ℕ) where
  -- a table is of version 1 or, where its header passes, of version 2
  abbrev pub first_version : Bool
  first_version = eqb (version t) 1

  -- version 2: behind the plans the number of nodes, then four bytes a node
  abbrev pub node_count : ℕ
  node_count = u16_at t (8 + 8 * plan_count t)

  abbrev pub node : ℕ → Node
  node i =
      let at : ℕ = 10 + 8 * plan_count t + 4 * i in
      record { kind = byte_at t at; a = byte_at t (at + 1); b = byte_at t (at + 2); last = byte_at t (at + 3) }

  -- where a table ends: after its plans, or after its nodes
  abbrev pub table_size : ℕ
  table_size = 8 + 8 * plan_count t + cond first_version 0 (2 + 4 * node_count)

  -- a plan without children: by check 8 its body says so
  abbrev pub is_leaf : ℕ → Bool
  is_leaf p = is_body Leaf (body_of (entry t p))

  -- at least m named children of plan p pass a test
  abbrev pub at_least : ℕ → (ℕ → Bool) → ℕ → Bool
  at_least p f m = leb m (count (λ c. named (entry t c) && f c) (children t p))

  -- the child of plan p that has rank r passes a test
  abbrev pub child_passes : ℕ → (ℕ → Bool) → ℕ → Bool
  child_passes p f r = get_or (map f (children t p)) r false

  -- what is asked holds of the children of plan p that pass a test, where `holds` says whether a node does
  abbrev pub asked_holds : ℕ → (ℕ → Bool) → (ℕ → Bool) → Asks → Bool
  asked_holds p f holds (Child r) = child_passes p f r
  asked_holds p f holds (Not a) = not (holds a)
  asked_holds p f holds (Join how a b) = joined how (holds a) (holds b)
  asked_holds p f holds (AtLeast m) = at_least p f m

  -- the formula that begins with node i, at most k nodes deep: operands have higher numbers, so the most nodes there can be are enough
  unfoldable pub formula_holds : ℕ → (ℕ → Bool) → ℕ → ℕ → Bool
  unfolding children
  formula_holds p f zero i = false
  formula_holds p f (suc k) i = asked_holds p f (formula_holds p f k) (asks (node i))

  -- byte 7: in version 1 the wait number m, in version 2 the first node of the plan's formula. Wait-for of plan p holds of its children
  -- that pass a test: at least m named ones do, or the formula holds of them; that of a leaf always holds
  unfoldable pub wait_for : ℕ → (ℕ → Bool) → Bool
  unfolding children formula_holds
  wait_for p f =
      let wait : ℕ = (entry t p).wait in
      cond first_version (at_least p f wait) (is_leaf p || formula_holds p f 256 wait)

  -- node i asks node j; the formula of plan p begins with node j
  abbrev pub uses_node : ℕ → ℕ → Bool
  uses_node j i = some (eqb j) (operands (asks (node i)))

  abbrev pub begins_with : ℕ → ℕ → Bool
  begins_with j p = not (is_leaf p) && eqb (entry t p).wait j

  -- what uses nodes: the formulas of the first k plans begin with them, and the first k nodes ask them
  unfoldable pub first_nodes : ℕ → List ℕ
  first_nodes zero = []
  first_nodes (suc p) = first_nodes p ++ cond (is_leaf p) [] ((entry t p).wait ∷ [])

  unfoldable pub asked_nodes : ℕ → List ℕ
  asked_nodes zero = []
  asked_nodes (suc i) = asked_nodes i ++ operands (asks (node i))

  -- how often node j is used
  unfoldable pub uses : ℕ → ℕ
  unfolding first_nodes asked_nodes
  uses j = count (eqb j) (first_nodes (plan_count t)) + count (eqb j) (asked_nodes node_count)

  -- the plan in whose formula node j stands, looked for at most k nodes up: that of the node that asks it, which has a lower number, else
  -- the plan whose formula begins with it. Each node is used once, so that the highest such node or plan is the only one
  unfoldable pub owner_within : ℕ → ℕ → ℕ
  unfolding some_below highest
  owner_within zero j = highest (begins_with j) (plan_count t)
  owner_within (suc k) j =
      cond (some_below (uses_node j) j) (owner_within k (highest (uses_node j) j)) (highest (begins_with j) (plan_count t))

  unfoldable pub owner : ℕ → ℕ
  unfolding owner_within
  owner j = owner_within j j
