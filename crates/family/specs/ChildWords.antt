-- What is known of the children of one plan: nine words, one for each state. Assumes nothing.
use Rattle.std.specs.Prelude.{ℕ, ◌+◌, ◌*◌, ◌≤◌, ◌<◌, ◌≡◌, List, T, length, get_or}
use Rattle.rules.specs.States.{code, is, state_at}
use Rattle.rules.specs.Table.{plan_count, entry, body_of, of_two, children}
use Rattle.rules.specs.declared.PlanState.{PlanState}
use Rattle.children.specs.Sets.{set_of}

-- the nine words of plan q have their place
pub record HasWords (sets : List ℕ) (q : ℕ) : Type 0 where
  pub small : q < 256
  pub sets_room : q * 9 + 9 ≤ length sets

-- plan q has two children
abbrev pub HasTwo : List ℕ → ℕ → Type 0
HasTwo t q = length (children t q) ≡ 2

-- of plan q's children, at most 64 of at most 256 plans, and two where its body asks for that, the words are those of the states s
pub record ChildWords (t s : List ℕ) (q : ℕ) (sets : List ℕ) : Type 0 where
  pub small : plan_count t ≤ 256
  pub few : length (children t q) ≤ 64
  pub two : T (of_two (body_of (entry t q))) → HasTwo t q
  pub word : (state : PlanState) → get_or sets (q * 9 + code state) 0 ≡ set_of t q (λ c. is state (state_at s c))
