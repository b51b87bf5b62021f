-- Each question about the states of a plan's children, answered by the words of those states. Assumes nothing.
use mathlib.Core.Path.{◌≡◌, refl, sym, ap, ap₂, ◌∙◌}
use mathlib.Core.List.{List, [], ◌∷◌, ◌++◌}
use mathlib.Core.Bool.{
  Bool,
  true,
  false,
  cond,
  ◌&&◌,
  ◌||◌,
  not,
  and-true,
  and-false,
  or-false,
  or_assoc,
  not-not,
}
use Prim.Native.Nat.{ℕ, ◌+◌, ◌-◌, ◌*◌, ◌^◌}
use lib.Bits.{bit_and, bit_or}
use lib.Count.{count_trailing_zeros}
use lib.Dec.{T, eqb}
use lib.ListN.{get_or}
use Rattle.rules.specs.Bytes.{is_set}
use Rattle.rules.specs.Lists.{all, some, first}
use Rattle.rules.specs.States.{code, state_at, one_of, is, ended}
use Rattle.rules.specs.Table.{
  entry,
  body_of,
  of_two,
  named,
  retry_aborted,
  wait_for_optional,
  children,
  first_child,
  rank,
}
use Rattle.rules.specs.WaitFor.{wait_for}
use Rattle.rules.specs.Step.{
  done,
  lost_states,
  state_of_first,
  state_of_second,
  first_not_done,
  gate_open,
  may_activate,
  fallback,
  ready_or,
  too_many_lost,
  all_ended,
  children_complete,
  chosen,
  due,
  orders_of,
  orders,
}
use Rattle.rules.specs.declared.Body.{Body}
use Rattle.rules.specs.declared.Body.TheVariants.{
  Leaf,
  Sequential,
  Parallel,
  AnyOrder,
  Unordered,
  OnAbort,
  OnSuspend,
  OnAbortOrSuspend,
  IfThenElse,
}
use Rattle.rules.specs.declared.PlanState.{PlanState}
use Rattle.rules.specs.declared.PlanState.TheVariants.{
  Inactive,
  Considered,
  Possible,
  Ready,
  Activated,
  Suspended,
  Completed,
  Aborted,
  Rejected,
}
use Rattle.children.specs.Sets.{set_of}
use Rattle.children.proofs.Sets.{
  set_or,
  set_and,
  set_none,
  set_passing,
  set_not_passing,
  set_two,
  ranked_at,
  set_first,
  set_first_not,
}
use Rattle.rules.specs.Demands.{SubPlan}
use Rattle.rules.proofs.Digits.{bit}
use Rattle.family.specs.ChildWords.{HasTwo, ChildWords}
use Rattle.formulas.specs.Asked.{TellsWaitFor}
use Rattle.family.specs.Tells.{unended, kept_states, InStates}

-- Tests of a state, and of all in a list.

-- a state is in one of two groups
one_of_append : (xs ys : List PlanState) (state : PlanState) → (one_of xs state || one_of ys state) ≡ one_of (xs ++ ys) state
one_of_append [] ys state = refl
one_of_append (x ∷ xs) ys state =
    or_assoc (eqb (code state) (code x)) (one_of xs state) (one_of ys state)
    ∙ ap (λ (b : Bool). eqb (code state) (code x) || b) (one_of_append xs ys state)

-- the states that are not ended are the others
not_unended : (state : PlanState) → not (one_of unended state) ≡ ended state
not_unended Inactive = refl
not_unended Considered = refl
not_unended Possible = refl
not_unended Ready = refl
not_unended Activated = refl
not_unended Suspended = refl
not_unended Completed = refl
not_unended Aborted = refl
not_unended Rejected = refl

-- the states of a child that a sequential plan is done with
abbrev pub done_states : Bool → List PlanState
done_states true = Completed ∷ Rejected ∷ []
done_states false = Completed ∷ Rejected ∷ Aborted ∷ []

done_states_lem : (again : Bool) (state : PlanState) → done again state ≡ one_of (done_states again) state
done_states_lem true state =
    ap (λ (b : Bool). one_of (done_states true) state || b) (and-false (is Aborted state))
    ∙ or-false (one_of (done_states true) state)
done_states_lem false state =
    ap (λ (b : Bool). one_of (done_states true) state || b) (and-true (is Aborted state))
    ∙ one_of_append (done_states true) (Aborted ∷ []) state

not_or : (a b : Bool) → not (a || b) ≡ (not a && not b)
not_or true b = refl
not_or false b = refl

not_some : (f g : ℕ → Bool) → ((c : ℕ) → not (f c) ≡ g c) → (l : List ℕ) → not (some f l) ≡ all g l
not_some f g e [] = refl
not_some f g e (c ∷ l) = not_or (f c) (some f l) ∙ ap₂ (λ (a b : Bool). a && b) (e c) (not_some f g e l)

-- a child is not lost where it is in one of the kept states
kept_of : (spared : Bool) (state : PlanState) → one_of (unended ++ Completed ∷ cond spared (Aborted ∷ []) []) state
    ≡ not (one_of (cond spared (Rejected ∷ []) (Rejected ∷ Aborted ∷ [])) state)
kept_of true Inactive = refl
kept_of true Considered = refl
kept_of true Possible = refl
kept_of true Ready = refl
kept_of true Activated = refl
kept_of true Suspended = refl
kept_of true Completed = refl
kept_of true Aborted = refl
kept_of true Rejected = refl
kept_of false Inactive = refl
kept_of false Considered = refl
kept_of false Possible = refl
kept_of false Ready = refl
kept_of false Activated = refl
kept_of false Suspended = refl
kept_of false Completed = refl
kept_of false Aborted = refl
kept_of false Rejected = refl

not_lost : (rule : ℕ) (again : Bool) (state : PlanState) → one_of (kept_states rule again) state ≡ not (one_of (lost_states rule again) state)
not_lost rule again = kept_of (eqb rule 2 && again)

-- Words by state.

pub none_lost : (t s : List ℕ) (q rule : ℕ) → ((f : ℕ → Bool) → true ≡ wait_for t q f) → false ≡ too_many_lost t s rule q
unfolding too_many_lost
none_lost t s q rule holds = ap not (holds (λ c. not (one_of (lost_states rule (retry_aborted (entry t q))) (state_at s c))))

module _ {t s : List ℕ} {q : ℕ} where
  -- the words that the code reads, and their unions
  pub in_one :
      {sets : List ℕ} → ChildWords t s q sets → (y : PlanState) {w : ℕ} → w ≡ get_or sets (q * 9 + code y) 0
      → InStates t s q (y ∷ []) w
  in_one known y e = record { word = e ∙ known.word y }

  pub in_either :
      {xs ys : List PlanState} {x y : ℕ} → InStates t s q xs x → InStates t s q ys y
      → InStates t s q (xs ++ ys) (bit_or x y)
  in_either {xs} {ys} hx hy =
      record {
        word =
            rw (hx.word, hy.word)
            (set_or t q (λ c. one_of xs (state_at s c)) (λ c. one_of ys (state_at s c)) ∙ simp one_of_append);
      }

  -- whether some child is in one of the states
  is_none :
      {ys : List PlanState} {w : ℕ} → InStates t s q ys w
      → eqb w 0 ≡ not (some (λ c. one_of ys (state_at s c)) (children t q))
  is_none {ys} h = rw h.word (set_none t q (λ c. one_of ys (state_at s c)))

  is_some :
      {ys : List PlanState} {w : ℕ} → InStates t s q ys w
      → not (eqb w 0) ≡ some (λ c. one_of ys (state_at s c)) (children t q)
  is_some {ys} h = ap not (is_none h) ∙ not-not (some (λ c. one_of ys (state_at s c)) (children t q))

  pub gate_is :
      {waiting gone : ℕ} → InStates t s q (Inactive ∷ Considered ∷ Possible ∷ []) waiting
      → InStates t s q (Activated ∷ Suspended ∷ Completed ∷ Aborted ∷ []) gone
      → (eqb waiting 0 || not (eqb gone 0)) ≡ gate_open t s q
  unfolding gate_open
  gate_is hw hg = ap₂ (λ (a b : Bool). a || b) (is_none hw) (is_some hg)

  pub may_is :
      {again : Bool} {running aborted : ℕ} → again ≡ retry_aborted (entry t q)
      → InStates t s q (Activated ∷ Suspended ∷ []) running → InStates t s q (Aborted ∷ []) aborted
      → (eqb running 0 && not (again && not (eqb aborted 0))) ≡ may_activate t s q
  unfolding may_activate
  may_is e hr ha =
      ap₂ (λ (a b : Bool). a && b) (is_none hr) (ap₂ (λ (a b : Bool). not (a && b)) e (is_some ha))

  pub ended_is : {w : ℕ} → InStates t s q unended w → eqb w 0 ≡ all (λ c. ended (state_at s c)) (children t q)
  ended_is h =
      is_none h
      ∙ not_some (λ c. one_of unended (state_at s c)) (λ c. ended (state_at s c)) (λ c. not_unended (state_at s c)) (children t q)

  -- wait-for of the children that are not lost, and of the Completed ones
  pub lost_is :
      (rule : ℕ) {again : Bool} {kept : ℕ} {holds : Bool} → again ≡ retry_aborted (entry t q) → InStates t s q (kept_states rule again) kept
      → TellsWaitFor t q kept holds → not holds ≡ too_many_lost t s rule q
  unfolding too_many_lost
  lost_is rule e h tells =
      ap not (tells (λ c. not (one_of (lost_states rule (retry_aborted (entry t q))) (state_at s c)))
      ((rw e at h).word ∙ simp (not_lost rule (retry_aborted (entry t q)))))

  pub complete_is :
      {completed : ℕ} {holds over : Bool} → InStates t s q (Completed ∷ []) completed → TellsWaitFor t q completed holds
      → over ≡ all_ended t s q → (holds && (not (wait_for_optional (entry t q)) || over)) ≡ children_complete t s q
  unfolding children_complete
  complete_is h tells eo =
      ap₂ (λ (a b : Bool). a && b) (tells (λ c. is Completed (state_at s c)) h.word)
      (ap (λ (b : Bool). not (wait_for_optional (entry t q)) || b) eo)

  -- of two children a word is made by the first and the second
  pub of_two_lem :
      {ys : List PlanState} {w : ℕ} → HasTwo t q → InStates t s q ys w
      → w ≡ bit (one_of ys (state_of_first t s q)) + 2 * bit (one_of ys (state_of_second t s q))
  of_two_lem {ys} two h = h.word ∙ set_two t q (λ c. one_of ys (state_at s c)) two

  -- a child p of q, by its rank
  module _ {sets : List ℕ} (known : ChildWords t s q sets) {p : ℕ} (child : SubPlan t q p) where
    pub not_done_is :
        (again : Bool) {w : ℕ} → again ≡ retry_aborted (entry t q) → InStates t s q (done_states again) w
        → eqb (rank t p) (count_trailing_zeros 64 (2 ^ 64 - 1 - w)) ≡ eqb p (first_not_done t s q)
    unfolding first_not_done
    not_done_is again e h =
        rw (h.word, ← e)
        (set_first_not t known.small q p child.child child.within known.few
        (λ c. one_of (done_states again) (state_at s c))
        ∙ simp (← done_states_lem again))

    pub first_is : eqb (rank t p) 0 ≡ eqb p (first_child t q)
    first_is = ranked_at t known.small q p child.child child.within 0

    -- the pick where it is Ready
    abbrev ready : ℕ → Bool
    ready c = is Ready (state_at s c)

    pub picked_is :
        (picks : ℕ → ℕ) {w : ℕ} → InStates t s q (Ready ∷ []) w → is_set (picks q) w ≡ true
        → eqb (rank t p) (picks q) ≡ eqb p (chosen t s picks q)
    unfolding ready_or chosen
    picked_is picks h e =
        ranked_at t known.small q p child.child child.within (picks q)
        ∙ ap (eqb p) (sym (set_passing t q ready (picks q) (fallback t s q) (rw h.word at e)))

    -- else the lowest that is Ready and named, else the lowest that is Ready
    module _ (picks : ℕ → ℕ) {w v : ℕ} (h : InStates t s q (Ready ∷ []) w) (names : v ≡ set_of t q (λ c. named (entry t c)))
        (e : is_set (picks q) w ≡ false) where
      abbrev mandatory : ℕ → Bool
      mandatory c = ready c && named (entry t c)

      both : bit_and w v ≡ set_of t q mandatory
      both = rw (h.word, names) (set_and t q ready (λ c. named (entry t c)))

      is_mandatory : not (eqb (bit_and w v) 0) ≡ some mandatory (children t q)
      is_mandatory = rw both (ap not (set_none t q mandatory) ∙ not-not (some mandatory (children t q)))

      lowest_of : (f : ℕ → Bool) → eqb (rank t p) (count_trailing_zeros 64 (set_of t q f)) ≡ eqb p (first f (children t q))
      lowest_of f = set_first t known.small q p child.child child.within known.few f

      falls : {b : Bool} → not (eqb (bit_and w v) 0) ≡ b
          → chosen t s picks q ≡ cond b (first mandatory (children t q)) (first ready (children t q))
      unfolding fallback ready_or chosen
      falls b = set_not_passing t q ready (picks q) (fallback t s q) (rw h.word at e) ∙ rw (sym is_mandatory ∙ b)

      pub named_is : eqb (bit_and w v) 0 ≡ false → eqb (rank t p) (count_trailing_zeros 64 (bit_and w v)) ≡ eqb p (chosen t s picks q)
      named_is n = rw (falls (ap not n), both) (lowest_of mandatory)

      pub lowest_is : eqb (bit_and w v) 0 ≡ true → eqb (rank t p) (count_trailing_zeros 64 w) ≡ eqb p (chosen t s picks q)
      lowest_is n = rw (falls (ap not n), h.word) (lowest_of ready)

-- which child is due counts only where there are two
due_counts :
    (body : Body) (again is_next gate is_chosen a b : Bool) → (T (of_two body) → a ≡ b)
    → orders_of body again is_next gate is_chosen a ≡ orders_of body again is_next gate is_chosen b
due_counts Leaf again n g c a b e = refl
due_counts Sequential again n g c a b e = refl
due_counts Parallel again n g c a b e = refl
due_counts AnyOrder again n g c a b e = refl
due_counts Unordered again n g c a b e = refl
due_counts OnAbort again n g c a b e = rw (e tt) refl
due_counts OnSuspend again n g c a b e = rw (e tt) refl
due_counts OnAbortOrSuspend again n g c a b e = rw (e tt) refl
due_counts IfThenElse again n g c a b e = rw (e tt) refl

-- what the answers to these questions make together
pub orders_is :
    (t s : List ℕ) (x : ℕ) (choice : ℕ → ℕ) (q p : ℕ) {body : Body} {again is_next gate is_chosen is_due : Bool} → body ≡ body_of (entry t q)
    → again ≡ retry_aborted (entry t q) → is_next ≡ eqb p (first_not_done t s q) → gate ≡ gate_open t s q
    → is_chosen ≡ (may_activate t s q && eqb p (choice q)) → (T (of_two (body_of (entry t q))) → is_due ≡ due t s x q p)
    → orders_of body again is_next gate is_chosen is_due ≡ orders t s x choice q p
unfolding orders
orders_is t s x choice q p eb ea en eg ec ed = rw (eb, ea, en, eg, ec) (due_counts (body_of (entry t q)) _ _ _ _ _ _ ed)
