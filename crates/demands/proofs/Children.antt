-- The children of a plan: they are its sub plans, in rising order, each at its rank. Assumes nothing.
use Prim.Native.Nat.{ℕ, zero, suc, ◌<◌}
use native.Mathlib.Omega.{arith}
use mathlib.Core.Bool.{Bool, true, false, cond}
use mathlib.Core.Path.{◌≡◌, refl, sym, ◌∙◌}
use mathlib.Core.Logic.{◌⊎◌, inl, inr}
use mathlib.Core.List.Memᴰ
use mathlib.Core.List.{
  List,
  [],
  ◌∷◌,
  ◌++◌,
  Memᴰ,
  append-nil,
}
use lib.ListN.{get_or, length, length-append, get_or-append}
use lib.Seq.{get_or_at}
use lib.Dec.{T, eqb→eq, eqb_refl}
use Rattle.rules.specs.Table.{plan_count, parent, is_child, children_before, children, rank}
use Rattle.rules.specs.Demands.{SubPlan}
use Rattle.rules.proofs.Tree.{Tree}
use Rattle.demands.proofs.Numbers.{last_or}
use Rattle.demands.proofs.Tests.{is_true}
use Rattle.demands.proofs.Lists.{Sorted, sorted_snoc}

module _ (t : List ℕ) where
  pub parent_is : (q c : ℕ) → T (is_child t q c) → parent t c ≡ q
  parent_is q zero h = absurd h
  parent_is q (suc c) h = eqb→eq (parent t (suc c)) q h

  -- a plan other than the root is a sub plan of its parent
  pub sub_plan : (k : ℕ) → suc k < plan_count t → SubPlan t (parent t (suc k)) (suc k)
  sub_plan k l = record { within = l; child = eqb_refl (parent t (suc k)) }

  not_root : (q c : ℕ) → T (is_child t q c) → 0 < c
  not_root q zero h = absurd h
  not_root q (suc c) h = omega arith

  pub after_parent : Tree t → (q c : ℕ) → SubPlan t q c → q < c
  after_parent tree q c p = omega (arith, parent_is q c p.child, tree.down c (not_root q c p.child) p.within)

module _ (t : List ℕ) (q : ℕ) where
  -- among the first k plans
  before_children : (k c : ℕ) → Memᴰ c (children_before t q k) → (c < k) × T (is_child t q c)
  unfolding children_before
  before_children zero c m = absurd (Memᴰ.not-nil m)
  before_children (suc k) c m =
      go (is_child t q k) refl (Memᴰ.append_cases (children_before t q k) m) (before_children k c)
    where
      go :
          (b : Bool) → is_child t q k ≡ b → Memᴰ c (children_before t q k) ⊎ Memᴰ c (cond b (k ∷ []) [])
          → (Memᴰ c (children_before t q k) → (c < k) × T (is_child t q c)) → (c < suc k) × T (is_child t q c)
      go b e (inl a) ih = let r = ih a in (omega arith, r.1)
      go true e (inr a) ih =
          let z : c ≡ k = Memᴰ.eq_of_singleton a in
          (omega arith, rw (z, e) tt)
      go false e (inr a) ih = absurd (Memᴰ.not-nil a)

  children_before_lem : (k c : ℕ) → c < k → T (is_child t q c) → Memᴰ c (children_before t q k)
  unfolding children_before
  children_before_lem zero c h e = absurd (omega arith)
  children_before_lem (suc k) c h e = go (last_or c k h) (children_before_lem k c)
    where
      go :
          (c ≡ k) ⊎ (c < k) → (c < k → T (is_child t q c) → Memᴰ c (children_before t q k))
          → Memᴰ c (children_before t q (suc k))
      go (inl z) ih = Memᴰ.append_right (children_before t q k) (rw (is_true (is_child t q k) (rw z at e)) (Memᴰ.head z))
      go (inr l) ih = Memᴰ.append_left _ (ih l e)

  sorted_before : (k : ℕ) → Sorted (children_before t q k)
  unfolding children_before
  sorted_before zero = tt
  sorted_before (suc k) = go (is_child t q k) (sorted_before k)
    where
      go : (b : Bool) → Sorted (children_before t q k) → Sorted (children_before t q k ++ cond b (k ∷ []) [])
      go true o = sorted_snoc (children_before t q k) k o (λ c m. (before_children k c m).0)
      go false o = rw append-nil o

  -- a child stands at its rank, whatever comes after it
  record AtRank (k c d : ℕ) : Type 0 where
    small : rank t c < length (children_before t q k)
    there : get_or (children_before t q k) (rank t c) d ≡ c

  rank_is : (c : ℕ) → T (is_child t q c) → rank t c ≡ length (children_before t q c)
  unfolding rank
  rank_is c h = rw (parent_is t q c h)

  at_rank_before : (k c d : ℕ) → c < k → T (is_child t q c) → AtRank k c d
  unfolding children_before
  at_rank_before zero c d h e = absurd (omega arith)
  at_rank_before (suc k) c d h e = go (last_or c k h) (at_rank_before k c d)
    where
      last_here : c ≡ k → AtRank (suc k) c d
      last_here z =
          let rank_k : rank t c ≡ length (children_before t q k) = rank_is c e ∙ rw z in
          let child_k = is_true (is_child t q k) (rw z at e) in
          record {
            small = rw (child_k, rank_k, length-append) (omega arith);
            there = rw (child_k, rank_k) (get_or_at (children_before t q k) k [] d _ refl ∙ sym z);
          }

      go : (c ≡ k) ⊎ (c < k) → (c < k → T (is_child t q c) → AtRank k c d) → AtRank (suc k) c d
      go (inl z) ih = last_here z
      go (inr l) ih =
          let r = ih l e in
          record {
            small = omega (arith, length-append (children_before t q k) (cond (is_child t q k) (k ∷ []) []), r.small);
            there = get_or-append (children_before t q k) _ d (rank t c) r.small ∙ r.there;
          }

  pub child_member : (c : ℕ) → SubPlan t q c → Memᴰ c (children t q)
  unfolding children
  child_member c p = children_before_lem (plan_count t) c p.within p.child

  pub member_child : (c : ℕ) → Memᴰ c (children t q) → SubPlan t q c
  unfolding children
  member_child c m = let r = before_children (plan_count t) c m in record { within = r.0; child = r.1 }

  pub sorted_children : Sorted (children t q)
  unfolding children
  sorted_children = sorted_before (plan_count t)

  pub rank_small : (c : ℕ) → SubPlan t q c → rank t c < length (children t q)
  unfolding children
  rank_small c p = (at_rank_before (plan_count t) c 0 p.within p.child).small

  pub at_rank : (c d : ℕ) → SubPlan t q c → get_or (children t q) (rank t c) d ≡ c
  unfolding children
  at_rank c d p = (at_rank_before (plan_count t) c d p.within p.child).there
