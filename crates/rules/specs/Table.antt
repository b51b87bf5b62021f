-- Document 01, 'Plan table', with the bodies of document 02 (i): the header, a plan's eight bytes, and the tree.
-- Assumes nothing.
use Rattle.std.specs.Prelude.{ℕ, zero, suc, ◌+◌, ◌*◌, Bool, false, cond, not, ◌&&◌, ◌||◌, List, [], ◌∷◌, ◌++◌, get_or, eqb}
use Rattle.std.proofs.Math.ListN.{length}
use Rattle.rules.specs.Lists.{no_plan}
use Rattle.rules.specs.Bytes.{byte_at, u16_at, is_set}
use Rattle.rules.specs.declared.PlanEntry.{PlanEntry}
use Rattle.rules.specs.declared.Body.{Body}
use Rattle.rules.specs.declared.Body.TheVariants.{
  Leaf,
  Sequential,
  Parallel,
  AnyOrder,
  Unordered,
  OnAbort,
  OnSuspend,
  OnAbortOrSuspend,
  IfThenElse,
}
use Rattle.rules.specs.declared.Condition.{Condition}
use Rattle.rules.specs.declared.Condition.TheVariants.{Filter, Setup, Suspend, Reactivate, Abort, Complete}

-- the header: three bytes of mark, the version, the plan count n, a last byte
abbrev pub version : List ℕ → ℕ
version t = u16_at t 3

abbrev pub plan_count : List ℕ → ℕ
plan_count t = u16_at t 5

-- the eight bytes of plan p
abbrev pub entry : List ℕ → ℕ → PlanEntry
entry t p =
    let at : ℕ = 8 + 8 * p in
    record {
      parent = u16_at t at;
      body = byte_at t (at + 2);
      flags = byte_at t (at + 3);
      present = byte_at t (at + 4);
      manual = byte_at t (at + 5);
      overridable = byte_at t (at + 6);
      wait = byte_at t (at + 7);
    }

-- byte 2: the body; 5 to 8 are document 02 (i)'s
abbrev pub body_number : Body → ℕ
body_number Leaf = 0
body_number Sequential = 1
body_number Parallel = 2
body_number AnyOrder = 3
body_number Unordered = 4
body_number OnAbort = 5
body_number OnSuspend = 6
body_number OnAbortOrSuspend = 7
body_number IfThenElse = 8

-- the body of a number; one above 8 is no body's: it counts as the last, and check 7 refuses it before it is read
abbrev pub numbered : ℕ → Body
numbered k =
    get_or (Leaf ∷ Sequential ∷ Parallel ∷ AnyOrder ∷ Unordered ∷ OnAbort ∷ OnSuspend ∷ OnAbortOrSuspend ∷ []) k IfThenElse

abbrev pub body_of : PlanEntry → Body
body_of e = numbered e.body

-- a body is the one
abbrev pub is_body : Body → Body → Bool
is_body y body = eqb (body_number body) (body_number y)

-- a body of two children
abbrev pub of_two : Body → Bool
of_two body = is_body OnAbort body || is_body OnSuspend body || is_body OnAbortOrSuspend body || is_body IfThenElse body

-- byte 3: the flags
abbrev pub retry_aborted : PlanEntry → Bool
retry_aborted e = is_set 0 e.flags

abbrev pub wait_for_optional : PlanEntry → Bool
wait_for_optional e = is_set 1 e.flags

abbrev pub named : PlanEntry → Bool
named e = is_set 2 e.flags

-- bytes 4 to 6: the bit of each condition
abbrev pub bit_of : Condition → ℕ
bit_of Filter = 0
bit_of Setup = 1
bit_of Suspend = 2
bit_of Reactivate = 3
bit_of Abort = 4
bit_of Complete = 5

abbrev pub conditions : List Condition
conditions = Filter ∷ Setup ∷ Suspend ∷ Reactivate ∷ Abort ∷ Complete ∷ []

module _ (t : List ℕ) where
  abbrev pub parent : ℕ → ℕ
  parent p = (entry t p).parent

  -- p is a child of q; plan 0 is nobody's child
  abbrev pub is_child : ℕ → ℕ → Bool
  is_child q zero = false
  is_child q (suc p) = eqb (parent (suc p)) q

  -- the children of q among the first k plans, in the order of their ranks
  unfoldable pub children_before : ℕ → ℕ → List ℕ
  children_before q zero = []
  children_before q (suc k) = children_before q k ++ cond (is_child q k) (k ∷ []) []

  unfoldable pub children : ℕ → List ℕ
  unfolding children_before
  children q = children_before q (plan_count t)

  -- of a plan with two children, the first and the second
  abbrev pub first_child : ℕ → ℕ
  first_child q = get_or (children q) 0 no_plan

  abbrev pub second_child : ℕ → ℕ
  second_child q = get_or (children q) 1 no_plan

  -- the rank of plan p among its siblings, counted from 0
  unfoldable pub rank : ℕ → ℕ
  unfolding children_before
  rank p = length (children_before (parent p) p)

  -- a is plan p or an ancestor of it, looked for at most k plans up; from plan p, p plans up are enough
  unfoldable pub is_or_is_above : ℕ → ℕ → ℕ → Bool
  is_or_is_above a zero p = eqb a p
  is_or_is_above a (suc k) p = eqb a p || not (eqb p 0) && is_or_is_above a k (parent p)
