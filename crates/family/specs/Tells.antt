-- What the words of plan q's children tell: the answer to each question about them, for every table t and states s whose children the
-- words are of. What other words would mean is nobody's question. Assumes nothing.
use Rattle.std.specs.Prelude.{ℕ, ◌≡◌, Bool, cond, ◌&&◌, List, [], ◌∷◌, ◌++◌, eqb}
use Rattle.rules.specs.Lists.{all}
use Rattle.rules.specs.States.{state_at, one_of, ended}
use Rattle.rules.specs.Table.{entry, body_of, named, retry_aborted, children, rank}
use Rattle.rules.specs.Demands.{SubPlan}
use Rattle.rules.specs.Words.{word}
use Rattle.rules.specs.Step.{
  bad_turn,
  branch_taken,
  due_of_two,
  both_ended,
  state_of_first,
  state_of_second,
  too_many_lost,
  all_ended,
  children_complete,
  first_not_done,
  gate_open,
  may_activate,
  chosen,
  orders,
  orders_if,
}
use Rattle.rules.specs.declared.Body.{Body}
use Rattle.rules.specs.declared.PlanEntry.{PlanEntry}
use Rattle.rules.specs.declared.Orders.{Orders}
use Rattle.rules.specs.declared.PlanState.{PlanState}
use Rattle.rules.specs.declared.PlanState.TheVariants.{
  Inactive,
  Considered,
  Possible,
  Ready,
  Activated,
  Suspended,
  Completed,
  Aborted,
}
use Rattle.children.specs.Sets.{set_of}
use Rattle.family.specs.ChildWords.{HasTwo, ChildWords}

-- the states that are not ended, and those of children that are not lost by a rule, where the plan has retry-aborted or not
abbrev pub unended : List PlanState
unended = Inactive ∷ Considered ∷ Possible ∷ Ready ∷ Activated ∷ Suspended ∷ []

abbrev pub kept_states : ℕ → Bool → List PlanState
kept_states rule again = unended ++ Completed ∷ cond (eqb rule 2 && again) (Aborted ∷ []) []

-- w is the word of q's children that are in one of the states ys
pub record InStates (t s : List ℕ) (q : ℕ) (ys : List PlanState) (w : ℕ) : Type 0 where
  pub word : w ≡ set_of t q (λ c. one_of ys (state_at s c))

-- p is a child of q, r its rank
pub record RankedChild (t : List ℕ) (q p r : ℕ) : Type 0 where
  pub child : SubPlan t q p
  pub ranked : r ≡ rank t p

module _ (sets : List ℕ) (q : ℕ) where
  -- the rank of the first child not done, where q retries aborted children or not; no child has it where there is none
  abbrev pub TellsFirstNotDone : Bool → ℕ → Type 0
  TellsFirstNotDone again r =
      (t s : List ℕ) (p : ℕ) → ChildWords t s q sets → SubPlan t q p → again ≡ retry_aborted (entry t q)
      → eqb (rank t p) r ≡ eqb p (first_not_done t s q)

  -- whether the gate of a parallel plan is open
  abbrev pub TellsGate : Bool → Type 0
  TellsGate r = (t s : List ℕ) → ChildWords t s q sets → r ≡ gate_open t s q

  -- whether an any-order plan may activate a child
  abbrev pub TellsMayActivate : Bool → Bool → Type 0
  TellsMayActivate again r = (t s : List ℕ) → ChildWords t s q sets → again ≡ retry_aborted (entry t q) → r ≡ may_activate t s q

  -- the rank of the child that is chosen under a pick, by the word of the named children; no child has it where none is Ready
  abbrev pub TellsChosenRank : ℕ → ℕ → ℕ → Type 0
  TellsChosenRank names pick r =
      (t s : List ℕ) (picks : ℕ → ℕ) (p : ℕ) → ChildWords t s q sets → SubPlan t q p → names ≡ set_of t q (λ c. named (entry t c))
      → picks q ≡ pick → eqb (rank t p) r ≡ eqb p (chosen t s picks q)

  -- two children: by the old states of the first and the second, the turn of the first, the branch of if-then-else with a word, whether
  -- the first or the second is considered, and whether both count as ended
  module _ (body : Body) where
    abbrev pub TellsBadTurn : Bool → Type 0
    TellsBadTurn r = (t s : List ℕ) → ChildWords t s q sets → HasTwo t q → r ≡ bad_turn body (state_of_first t s q)

    abbrev pub TellsDue : ℕ → Bool → Bool → Type 0
    TellsDue x is_first r =
        (t s : List ℕ) → ChildWords t s q sets → HasTwo t q
        → r ≡ due_of_two body x is_first (state_of_first t s q) (state_of_second t s q)

    abbrev pub TellsBothEnded : Bool → Type 0
    TellsBothEnded r =
        (t s : List ℕ) → ChildWords t s q sets → HasTwo t q → r ≡ both_ended body (state_of_first t s q) (state_of_second t s q)

  abbrev pub TellsBranch : ℕ → Bool → Bool → Type 0
  TellsBranch x is_first r =
      (t s : List ℕ) → ChildWords t s q sets → HasTwo t q → r ≡ branch_taken x is_first (state_of_first t s q) (state_of_second t s q)

  -- what q, by its entry and word, orders its child of a rank, `is_chosen` saying whether that is the chosen one; and given q's states
  -- before and after
  abbrev pub TellsOrders : PlanEntry → ℕ → ℕ → Bool → Orders → Type 0
  TellsOrders e x k is_chosen r =
      (t s : List ℕ) (choice : ℕ → ℕ) (p : ℕ) → ChildWords t s q sets → RankedChild t q p k → e ≡ entry t q
      → is_chosen ≡ eqb p (choice q) → r ≡ orders t s x choice q p

  abbrev pub TellsOrdersIf : PlanState → PlanState → PlanEntry → ℕ → ℕ → Bool → Orders → Type 0
  TellsOrdersIf before after e x k is_chosen r =
      (t s w : List ℕ) (choice : ℕ → ℕ) (p : ℕ) → ChildWords t s q sets → RankedChild t q p k → e ≡ entry t q → x ≡ word w q
      → is_chosen ≡ eqb p (choice q) → r ≡ orders_if t s w choice before after q p

  -- the word of the children that are in one of a few states
  abbrev pub TellsWord : List PlanState → ℕ → Type 0
  TellsWord ys r = (t s : List ℕ) → ChildWords t s q sets → InStates t s q ys r

  -- whether each child is ended, and whether all are, which q's body says of two
  abbrev pub TellsEachEnded : Bool → Type 0
  TellsEachEnded r = (t s : List ℕ) → ChildWords t s q sets → r ≡ all (λ c. ended (state_at s c)) (children t q)

  abbrev pub TellsAllEnded : Body → Bool → Type 0
  TellsAllEnded body r = (t s : List ℕ) → ChildWords t s q sets → body ≡ body_of (entry t q) → r ≡ all_ended t s q

  -- whether, by a rule, too many children of q in the table t are lost, and whether they let q complete
  abbrev pub TellsLost : ℕ → List ℕ → Bool → Type 0
  TellsLost rule t r = (s : List ℕ) → ChildWords t s q sets → r ≡ too_many_lost t s rule q

  abbrev pub TellsComplete : List ℕ → Bool → Type 0
  TellsComplete t r = (s : List ℕ) → ChildWords t s q sets → r ≡ children_complete t s q
