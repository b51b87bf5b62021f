-- Check 11 in one pass: what the marks say of lower children, what a turn adds to them, and a plan's rule by its parent's marks.
-- Assumes nothing.
use Prim.Native.Nat.{ℕ, zero, suc, ◌+◌, ◌≤◌, ◌<◌}
use native.Mathlib.Omega.{arith}
use native.Mathlib.Numerals.{add-one}
use native.Mathlib.Decide.{ℕ_discrete, le_ind}
use mathlib.Core.Path.{◌≡◌, refl, sym, ap, ap₂, ◌∙◌}
use mathlib.Core.Bool.{Bool, true, false, not, ◌&&◌, ◌||◌, and-false, or-false, or-true}
use mathlib.Core.List.{List, [], ◌∷◌}
use lib.Dec.{ltb}
use lib.ListN.{length, get_or, set, replicate, length-set, length-replicate, get_or-replicate}
use lib.Seq.{get_or-set_same, get_or-set_other}
use borrow.Author.Count.{below_more}
use borrow.Author.Tests.{lt-ltb, le-ltb, ne_eqb}
use Rattle.rules.specs.Lists.{some}
use Rattle.rules.specs.Bytes.{byte_at}
use Rattle.rules.specs.States.{state_of, state_at, is, in_execution}
use Rattle.rules.specs.Table.{plan_count, parent, entry, body_of, retry_aborted, is_child, children_before, children}
use Rattle.rules.specs.HandedIn.{suits, lets_later, some_before, too_early, breaks_body, breaks_under, bad_state}
use Rattle.rules.specs.declared.Body.{Body}
use Rattle.rules.specs.declared.Body.TheVariants.{
  Leaf,
  Sequential,
  Parallel,
  AnyOrder,
  Unordered,
  OnAbort,
  OnSuspend,
  OnAbortOrSuspend,
  IfThenElse,
}
use Rattle.rules.specs.declared.PlanEntry.{PlanEntry}
use Rattle.rules.specs.declared.PlanState.{PlanState}
use Rattle.rules.specs.declared.PlanState.TheVariants.{
  Inactive,
  Considered,
  Possible,
  Ready,
  Activated,
  Suspended,
  Completed,
  Aborted,
  Rejected,
}
use Rattle.children.proofs.Kin.{some_snoc, children_own, children_other}
use Rattle.lent.specs.BodyRule.{stands_alone, shuts, breaks_by}
use Rattle.rules.proofs.Codes.{state_is, test_byte}

module _ (t : List ℕ) where
  -- one plan more among the children
  some_more :
      (f : ℕ → Bool) (q k : ℕ) → some f (children_before t q (suc k)) ≡ (some f (children_before t q k) || is_child t q k && f k)
  unfolding children_before
  some_more f q k = some_snoc f (children_before t q k) k (is_child t q k)

  -- of the children before a bound, those before p
  module _ (g : ℕ → Bool) (q p : ℕ) where
    abbrev lower : ℕ → Bool
    lower c = ltb c p && g c

    lower_all : (k : ℕ) → k ≤ p → some lower (children_before t q k) ≡ some g (children_before t q k)
    unfolding children_before
    lower_all zero h = refl
    lower_all (suc k) h =
        some_more lower q k ∙ rw (lower_all k (omega arith), lt-ltb k p h) (sym (some_more g q k))

    lower_only : (k : ℕ) → p ≤ k → some lower (children_before t q k) ≡ some g (children_before t q p)
    lower_only =
        le_ind (λ k. some lower (children_before t q k) ≡ some g (children_before t q p)) (lower_all p (omega arith))
        (λ k h before.
        some_more lower q k
        ∙ rw (before, le-ltb k p h, and-false (is_child t q k)) (or-false (some g (children_before t q p))))

  -- a test of the children before p, as the rules have it, is one of the children among the first p plans
  some_before_lem :
      (s : List ℕ) (f : PlanState → Bool) (q p : ℕ) → p ≤ plan_count t
      → some_before t s q p f ≡ some (λ c. f (state_at s c)) (children_before t q p)
  unfolding children
  some_before_lem s f q p h = lower_only (λ c. f (state_at s c)) q p (plan_count t) h

-- a mark for each of the first n plans q: some child of q before p passes q's test
pub record Marks (t : List ℕ) (n : ℕ) (f : ℕ → ℕ → Bool) (p : ℕ) (marks : List Bool) : Type 0 where
  pub room : n ≤ length marks
  pub mark : (q : ℕ) → q < n → get_or marks q false ≡ some (f q) (children_before t q p)

-- before the first turn: no plan has a child before plan 1
pub marks_none : (t : List ℕ) (n : ℕ) (f : ℕ → ℕ → Bool) (m : ℕ) → n ≤ m → Marks t n f 1 (replicate m false)
unfolding children_before
marks_none t n f m h =
    record {
      room = rw length-replicate h;
      mark = λ q l. rw (get_or-replicate {A = Bool} m q false false (omega arith));
    }

-- plan p adds to the mark of its parent q, and to no other
module _
    (t : List ℕ)
    (n : ℕ)
    (f : ℕ → ℕ → Bool)
    (p : ℕ)
    (marks : List Bool)
    (before : Marks t n f p marks)
    (h : 0 < p)
    (q : ℕ)
    (v : Bool)
    (l : q < n)
    (eq : q ≡ parent t p)
    (ev : v ≡ (get_or marks q false || f q p))
  where
    mark_more : (k : ℕ) → k < n → Dec (k ≡ q) → get_or (set marks q v) k false ≡ some (f k) (children_before t k (suc p))
    mark_more k lk (yes e) =
        rw (e, get_or-set_same marks q v false (omega (arith, before.room)), children_own t q p h (sym eq))
        (ev ∙ rw (before.mark q l) (sym (some_snoc (f q) (children_before t q p) p true)))
    mark_more k lk (no ne) =
        rw (get_or-set_other marks q k v false ne, children_other t k p h (λ e. ne (sym e ∙ sym eq))) (before.mark k lk)

    mark_next : Marks t n f (p + 1) (set marks q v)
    mark_next =
        record {
          room = simp length-set before.room;
          mark = λ k lk. rw (add-one p) (mark_more k lk (ℕ_discrete k q));
        }

-- where plan p passes no test, the marks stand
marks_kept :
    (t : List ℕ) (n : ℕ) (f : ℕ → ℕ → Bool) (p : ℕ) (marks : List Bool) → ((q : ℕ) → f q p ≡ false) → Marks t n f p marks
    → Marks t n f (p + 1) marks
marks_kept t n f p marks none before =
    record {
      room = before.room;
      mark =
          λ q l.
          rw (add-one p, some_more t (f q) q p, none q, and-false (is_child t q p), or-false (some (f q) (children_before t q p)))
          (before.mark q l);
    }

-- what is marked: a child that stands alone, and one that keeps the later ones Inactive
abbrev pub alone_at : List ℕ → List ℕ → ℕ → ℕ → Bool
alone_at t s q c = stands_alone (body_of (entry t q)) (state_at s c)

abbrev pub shut_at : List ℕ → List ℕ → ℕ → ℕ → Bool
shut_at t s q c = shuts (body_of (entry t q)) (retry_aborted (entry t q)) (state_at s c)

-- what `lowest_bad_state` knows before its turn at plan p
pub record Marking (t s : List ℕ) (n p : ℕ) (alone shut : List Bool) : Type 0 where
  pub started : 0 < p
  pub within : p ≤ n
  pub passed : (k : ℕ) → k < p → bad_state t s k ≡ false
  pub alone_marks : Marks t n (alone_at t s) p alone
  pub shut_marks : Marks t n (shut_at t s) p shut

module _ (t s : List ℕ) where
  -- a byte that is no code breaks a rule; where it is one, the root breaks none, and a child may break one with lower plans
  pub bad_code : (p : ℕ) → 8 < byte_at s p → bad_state t s p ≡ true
  unfolding bad_state
  bad_code zero h = rw (le-ltb (byte_at s 0) 9 h)
  bad_code (suc p) h = rw (le-ltb (byte_at s (suc p)) 9 h)

  pub good_root : byte_at s 0 ≤ 8 → bad_state t s 0 ≡ false
  unfolding bad_state
  good_root h = rw (lt-ltb (byte_at s 0) 9 (omega arith))

  bad_under : (p : ℕ) → 0 < p → byte_at s p ≤ 8 → bad_state t s p ≡ breaks_under t s (parent t p) p
  unfolding bad_state
  bad_under zero h e = absurd (omega arith)
  bad_under (suc p) h e = rw (lt-ltb (byte_at s (suc p)) 9 (omega arith))

-- an Inactive child suits every parent and breaks no body's rule
inactive_suits : (parent : PlanState) → suits parent Inactive ≡ true
inactive_suits Inactive = refl
inactive_suits Considered = refl
inactive_suits Possible = refl
inactive_suits Ready = refl
inactive_suits Activated = refl
inactive_suits Suspended = refl
inactive_suits Completed = refl
inactive_suits Aborted = refl
inactive_suits Rejected = refl

inactive_keeps : (body : Body) (alone shut : Bool) → breaks_by body Inactive alone shut ≡ false
inactive_keeps Leaf alone shut = refl
inactive_keeps Sequential alone shut = refl
inactive_keeps Parallel alone shut = refl
inactive_keeps AnyOrder alone shut = refl
inactive_keeps Unordered alone shut = refl
inactive_keeps OnAbort alone shut = refl
inactive_keeps OnSuspend alone shut = refl
inactive_keeps OnAbortOrSuspend alone shut = refl
inactive_keeps IfThenElse alone shut = refl

-- what a turn at plan p, the child of q, finds and does, in the code's words: `fits` and `breaks` are its tests, e is q's entry
pub record MarkTurn
    (t s : List ℕ)
    (n p : ℕ)
    (alone shut : List Bool)
    (q : ℕ)
    (e : PlanEntry)
    (body : Body)
    (child : PlanState)
    (fits breaks : Bool)
    : Type 0
  where
    pub tested : bad_state t s p ≡ (not fits || breaks)
    pub next :
        bad_state t s p ≡ false → (again stands lets v u : Bool) → again ≡ retry_aborted e → stands ≡ stands_alone body child
        → lets ≡ lets_later body again child → v ≡ (get_or alone q false || stands)
        → u ≡ (get_or shut q false || not lets)
        → Marking t s n (p + 1) (set alone q v) (set shut q u)

-- a test that no number passes, and tests that agree
some_none : (l : List ℕ) → some (λ c. false) l ≡ false
some_none [] = refl
some_none (c ∷ l) = some_none l

some_same : (f g : ℕ → Bool) → ((c : ℕ) → f c ≡ g c) → (l : List ℕ) → some f l ≡ some g l
some_same f g e [] = refl
some_same f g e (c ∷ l) = ap₂ (λ (a b : Bool). a || b) (e c) (some_same f g e l)

-- where an Inactive child keeps the later ones so, nothing is gained by asking for it
shuts_by : (body : Body) (again : Bool) → lets_later body again Inactive ≡ false → (x : PlanState) → not (lets_later body again x) ≡ shuts body again x
shuts_by body again e Inactive = rw e refl
shuts_by body again e Considered = refl
shuts_by body again e Possible = refl
shuts_by body again e Ready = refl
shuts_by body again e Activated = refl
shuts_by body again e Suspended = refl
shuts_by body again e Completed = refl
shuts_by body again e Aborted = refl
shuts_by body again e Rejected = refl

-- whom any-order and if-then-else mark as standing alone
alone_runs : (x : PlanState) → in_execution x ≡ stands_alone AnyOrder x
alone_runs x = sym (or-false (in_execution x))

alone_begun : (x : PlanState) → not (is Inactive x) ≡ stands_alone IfThenElse x
alone_begun Inactive = refl
alone_begun Considered = refl
alone_begun Possible = refl
alone_begun Ready = refl
alone_begun Activated = refl
alone_begun Suspended = refl
alone_begun Completed = refl
alone_begun Aborted = refl
alone_begun Rejected = refl

module _
    (t s : List ℕ)
    (n p : ℕ)
    (whole : n ≡ plan_count t)
    (alone shut : List Bool)
    (before : Marking t s n p alone shut)
    (l : p < n)
    (coded : byte_at s p ≤ 8)
    (q : ℕ)
    (is_parent : q ≡ parent t p)
    (inside : q < n)
  where
    abbrev again : Bool
    again = retry_aborted (entry t q)

    abbrev begun : Bool
    begun = not (is Inactive (state_at s p))

    -- a test of the lower children, by one that agrees with it
    lower_test :
        (f g : PlanState → Bool) → ((x : PlanState) → f x ≡ g x)
        → some_before t s q p f ≡ some (λ c. g (state_at s c)) (children_before t q p)
    lower_test f g e =
        some_before_lem t s f q p (omega arith)
        ∙ some_same (λ c. f (state_at s c)) (λ c. g (state_at s c)) (λ c. e (state_at s c)) (children_before t q p)

    -- q's marks, where its body is known
    module _ (body : Body) (is_body : body_of (entry t q) ≡ body) where
      marked_alone : some (λ c. stands_alone body (state_at s c)) (children_before t q p) ≡ get_or alone q false
      marked_alone =
          sym
          (before.alone_marks.mark q inside
          ∙ ap (λ (b : Body). some (λ c. stands_alone b (state_at s c)) (children_before t q p)) is_body)

      -- too early by the mark, where Inactive children keep the later ones so; never, where all children let them be
      early_shut : lets_later body again Inactive ≡ false → too_early t s body q p ≡ (begun && get_or shut q false)
      early_shut e =
          ap (λ (b : Bool). begun && b)
          (lower_test (λ x. not (lets_later body again x)) (shuts body again) (shuts_by body again e)
          ∙ sym
          (before.shut_marks.mark q inside ∙ ap (λ (b : Body). some (λ c. shuts b again (state_at s c)) (children_before t q p)) is_body))

    early_never : (body : Body) → ((x : PlanState) → lets_later body again x ≡ true) → too_early t s body q p ≡ false
    early_never body e =
        ap (λ (b : Bool). begun && b)
        (lower_test (λ x. not (lets_later body again x)) (λ x. false) (λ x. ap not (e x)) ∙ some_none (children_before t q p))
        ∙ and-false begun

    -- the rule of q's body, by q's marks
    body_by :
        (body : Body) → body_of (entry t q) ≡ body
        → breaks_body t s body q p ≡ breaks_by body (state_at s p) (get_or alone q false) (get_or shut q false)
    body_by Leaf e = early_never Leaf (λ x. refl)
    body_by Sequential e = early_shut Sequential e refl
    body_by Parallel e = early_never Parallel (λ x. refl)
    body_by AnyOrder e =
        ap₂ (λ (a b : Bool). in_execution (state_at s p) && a || b)
        (lower_test in_execution (stands_alone AnyOrder) alone_runs ∙ marked_alone AnyOrder e) (early_never AnyOrder (λ x. refl))
        ∙ or-false _
    body_by Unordered e = early_never Unordered (λ x. refl)
    body_by OnAbort e = early_shut OnAbort e refl
    body_by OnSuspend e = early_shut OnSuspend e refl
    body_by OnAbortOrSuspend e = early_shut OnAbortOrSuspend e refl
    body_by IfThenElse e =
        ap (λ (b : Bool). begun && b)
        (lower_test (λ x. not (is Inactive x)) (stands_alone IfThenElse) alone_begun ∙ marked_alone IfThenElse e)

    -- the rule of p, by its state, q's state and q's marks
    bad_by :
        bad_state t s p
        ≡ (not (suits (state_at s q) (state_at s p))
        || breaks_by (body_of (entry t q)) (state_at s p) (get_or alone q false) (get_or shut q false))
    bad_by =
        bad_under t s p before.started coded
        ∙ ap (λ (k : ℕ). breaks_under t s k p) (sym is_parent)
        ∙ ap (λ (b : Bool). not (suits (state_at s q) (state_at s p)) || b) (body_by (body_of (entry t q)) refl)

    -- the turn at a plan that is not Inactive
    pub mark_turn :
        (byte_at s p ≡ 0 → ⊥) → (e : PlanEntry) (child above : PlanState) (body : Body) (fits breaks : Bool) → e ≡ entry t q
        → child ≡ state_of (byte_at s p) → above ≡ state_of (byte_at s q) → body ≡ body_of e → fits ≡ suits above child
        → breaks ≡ breaks_by body child (get_or alone q false) (get_or shut q false)
        → MarkTurn t s n p alone shut q e body child fits breaks
    mark_turn moving e child above body fits breaks ee ec ea eb ef ek =
        let not_idle : is Inactive (state_at s p) ≡ false =
        ap (is Inactive) (state_is s p) ∙ sym (test_byte Inactive refl (byte_at s p)) ∙ ne_eqb (byte_at s p) 0 moving in
        record {
          tested = bad_by ∙ sym (rw (ef, ek, eb, ea, ec, ee, ← state_is s q, ← state_is s p));
          next =
              λ good again stands lets v u eg es el ev eu.
              record {
                started = omega arith;
                within = omega arith;
                passed = below_more _ _ before.passed good;
                alone_marks =
                    mark_next t n (alone_at t s) p alone before.alone_marks before.started q v inside is_parent
                    (ev ∙ rw (es, eb, ec, ee, ← state_is s p));
                shut_marks =
                    mark_next t n (shut_at t s) p shut before.shut_marks before.started q u inside is_parent
                    (eu ∙ rw (el, eg, eb, ee, ec, ← state_is s p, not_idle));
              };
        }

    -- the turn at an Inactive plan: it breaks no rule, does not stand alone and keeps the later ones Inactive
    pub idle_turn : byte_at s p ≡ 0 → Marking t s n (p + 1) alone (set shut q true)
    idle_turn zero_byte =
        let idle : state_at s p ≡ Inactive = state_is s p ∙ ap state_of zero_byte in
        let good : bad_state t s p ≡ false = bad_by ∙ rw (idle, inactive_suits (state_at s q), inactive_keeps) refl in
        record {
          started = omega arith;
          within = omega arith;
          passed = below_more _ _ before.passed good;
          alone_marks = marks_kept t n (alone_at t s) p alone (λ k. rw (idle, and-false) refl) before.alone_marks;
          shut_marks =
              mark_next t n (shut_at t s) p shut before.shut_marks before.started q true inside is_parent
              (rw idle (sym (or-true (get_or shut q false))));
        }
