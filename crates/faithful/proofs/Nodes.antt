-- The nodes of a table moved to version 2: each is of kind 5, and the formula of exactly one plan with children begins with it. So its
-- formulas pass check 22 and its waits pass check 9. Assumes that the table that it was moved from passes, and is of version 1.
use Prim.Native.Nat.{ℕ, zero, suc, ◌+◌, ◌≤◌, ◌<◌}
use native.Mathlib.Omega.{arith}
use native.Mathlib.Decide.{ℕ_discrete, dec_lt}
use native.Mathlib.Nat.{add-zero}
use mathlib.Core.Bool.{Bool, true, false, cond, not, ◌&&◌, ◌||◌, and-false}
use mathlib.Core.Path.{◌≡◌, refl, sym, ◌∙◌, ap, ap₂}
use mathlib.Core.List.{List, [], ◌∷◌}
use lib.Dec.{eqb, leb, ltb}
use lib.ListN.{length}
use borrow.Author.Tests.{eq-eqb, ne_eqb, lt-ltb, le-ltb, lt-leb}
use Rattle.rules.specs.Lists.{count, some, some_below}
use Rattle.rules.specs.Table.{version, plan_count, entry, children}
use Rattle.rules.specs.WaitFor.{asks, operands, node_count, node, is_leaf, first_nodes, asked_nodes, uses, owner}
use Rattle.rules.specs.Answers.{too_many, stray_first, bad_bytes, bad_node, bad_rank, formulas_check, asks_too_many, bad_wait, Done}
use Rattle.rules.specs.declared.Node.{Node}
use Rattle.rules.proofs.Outcomes.{pass, pass_at, pass_at_last}
use Rattle.rules.proofs.Below.{none_below}
use Rattle.rules.proofs.Tree.{Passes}
use Rattle.nodes.proofs.Uses.{count_append}
use Rattle.nodes.proofs.Standing.{first_stands}
use Rattle.versions.specs.Versions.{nodes_before}
use Rattle.versions.proofs.Laid.{node_more, node_same, nodes_rise_past, Numbered, node_of}
use Rattle.faithful.proofs.Shape.{Moved, HasNodes, same_count, parent_wait, same_leaf}
use Rattle.faithful.proofs.Passing.{is_first, is_second, room, few_nodes}
use Rattle.faithful.proofs.Numbers.{too_many_as}
use Rattle.faithful.proofs.Checked.{none_found, plans}

-- one more number below k is met
once_more : (j k : ℕ) → cond (ltb j k) 1 0 + (cond (eqb j k) 1 0 + 0) ≡ cond (ltb j (k + 1)) 1 0
once_more j k = go (ℕ_discrete j k) (dec_lt j k)
  where
    go : Dec (j ≡ k) → Dec (j < k) → cond (ltb j k) 1 0 + (cond (eqb j k) 1 0 + 0) ≡ cond (ltb j (k + 1)) 1 0
    go (yes e) d = rw (eq-eqb j k e, le-ltb j k (omega arith), lt-ltb j (k + 1) (omega arith))
    go (no e) (yes l) = rw (ne_eqb j k e, lt-ltb j k l, lt-ltb j (k + 1) (omega arith))
    go (no e) (no l) = rw (ne_eqb j k e, le-ltb j k (omega arith), le-ltb j (k + 1) (omega (arith, e)))

module _ {t u : List ℕ} (passed : Passes t) (m : Moved t u 2 (nodes_before t)) (has : HasNodes t u) where
  leaf_is : (p : ℕ) → p < plan_count t → is_leaf u p ≡ is_leaf t p
  leaf_is = same_leaf m (room passed)

  pub first_is : (p : ℕ) → p < plan_count t → is_leaf t p ≡ false → (entry u p).wait ≡ nodes_before t p
  first_is = parent_wait m (room passed)

  -- each node is that of a plan with children
  plan_of : (i : ℕ) → i < node_count u → Numbered t (nodes_before t) (plan_count t) i
  plan_of i l = node_of t (plan_count t) i (omega (arith, has.many))

  node_is :
      (i : ℕ) (l : i < node_count u)
      → node u i ≡ record { kind = 5; a = (entry t (plan_of i l).plan).wait; b = 0; last = 0 }
  node_is i l =
      let c = plan_of i l in
      ap (node u) (sym c.here) ∙ has.nodes c.plan c.inside c.parts

  pub of_kind_5 : (i : ℕ) → i < node_count u → (node u i).kind ≡ 5
  of_kind_5 i l = ap (λ (e : Node). e.kind) (node_is i l)

  -- so none asks another
  no_operands : (i : ℕ) → i < node_count u → operands (asks (node u i)) ≡ []
  no_operands i l = ap (λ (e : Node). operands (asks e)) (node_is i l)

  none_asked : (i : ℕ) → i ≤ node_count u → asked_nodes u i ≡ []
  unfolding asked_nodes
  none_asked zero l = refl
  none_asked (suc i) l = rw (none_asked i (omega arith), no_operands i (omega arith))

  -- the formulas of the first k plans begin with each of their nodes once
  begun : (j k : ℕ) → k ≤ plan_count t → count (eqb j) (first_nodes u k) ≡ cond (ltb j (nodes_before t k)) 1 0
  unfolding first_nodes nodes_before
  begun j zero l = rw (le-ltb j 0 (omega arith))
  begun j (suc k) l =
      count_append (eqb j) (first_nodes u k) (cond (is_leaf u k) [] ((entry u k).wait ∷ []))
      ∙ ap (λ (x : ℕ). x + count (eqb j) (cond (is_leaf u k) [] ((entry u k).wait ∷ []))) (begun j k (omega arith))
      ∙ go (is_leaf t k) refl
    where
      go :
          (b : Bool) → is_leaf t k ≡ b
          → cond (ltb j (nodes_before t k)) 1 0 + count (eqb j) (cond (is_leaf u k) [] ((entry u k).wait ∷ []))
          ≡ cond (ltb j (nodes_before t (suc k))) 1 0
      go true e = rw (leaf_is k l ∙ e, node_same t k e) (add-zero (cond (ltb j (nodes_before t k)) 1 0))
      go false e = rw (leaf_is k l ∙ e, first_is k l e, node_more t k e) (once_more j (nodes_before t k))

  used_once : (i : ℕ) → i < node_count u → uses u i ≡ 1
  unfolding uses
  used_once i l =
      ap₂ ◌+◌
      (ap (λ (n : ℕ). count (eqb i) (first_nodes u n)) (same_count m)
      ∙ begun i (plan_count t) (omega arith)
      ∙ ap (λ (b : Bool). cond b 1 0) (lt-ltb i (nodes_before t (plan_count t)) (omega (arith, has.many))))
      (ap (count (eqb i)) (none_asked (node_count u) (omega arith)))

  -- 22
  first_there : (p : ℕ) → p < plan_count t → stray_first u p ≡ false
  unfolding stray_first
  first_there p l = ap (λ (b : Bool). not b && leb (node_count u) (entry u p).wait) (leaf_is p l) ∙ go (is_leaf t p) refl
    where
      go : (b : Bool) → is_leaf t p ≡ b → (not b && leb (node_count u) (entry u p).wait) ≡ false
      go true e = refl
      go false e =
          lt-leb (node_count u) (entry u p).wait (omega (arith, first_is p l e, nodes_rise_past t p (plan_count t) l e, has.many))

  good_node : (i : ℕ) → i < node_count u → bad_node u i ≡ false
  unfolding bad_node bad_bytes
  good_node i l =
      ap₂ (λ (e : Node) (k : ℕ). bad_bytes e || some (λ o. leb o i || leb (node_count u) o) (operands (asks e)) || not (eqb k 1))
      (node_is i l) (used_once i l)

  good_rank : (i : ℕ) → i < node_count u → bad_rank u i ≡ false
  unfolding bad_rank
  good_rank i l = ap (λ (e : Node). eqb e.kind 0 && leb (length (children u (owner u i))) e.a) (node_is i l)

  pub formulas_pass : formulas_check u ≡ Done
  unfolding formulas_check
  formulas_pass =
      pass _ _ _ (le-ltb 256 (node_count u) (omega (arith, has.many, few_nodes passed)))
      ∙ pass_at _ _ _ (none_found (stray_first u) (plan_count u) (λ p l. first_there p (rw (same_count m) at l)))
      ∙ pass_at _ _ _ (none_found (bad_node u) (node_count u) good_node)
      ∙ pass_at_last _ _ (none_found (bad_rank u) (node_count u) good_rank)

  -- a node stands in the formula of its plan
  owner_is : (i : ℕ) (l : i < node_count u) → owner u i ≡ (plan_of i l).plan
  owner_is i l =
      let c = plan_of i l in
      let p : ℕ = c.plan in
      ap (owner u) (sym (first_is p c.inside c.parts ∙ c.here))
      ∙ first_stands u formulas_pass p (omega (arith, c.inside, same_count m)) (leaf_is p c.inside ∙ c.parts)

  -- 9
  module _ (first : version t ≡ 1) where
    fits_in_first : (p : ℕ) → p < plan_count t → too_many t p (entry t p).wait ≡ false
    unfolding bad_wait
    fits_in_first p l =
        sym (ap (λ (b : Bool). cond b (too_many t p (entry t p).wait) (some_below (asks_too_many t p) (node_count t))) (is_first t first))
        ∙ passed.waits p l

    nobody_asks : (p : ℕ) → p < plan_count t → (i : ℕ) → i < node_count u → asks_too_many u p i ≡ false
    unfolding asks_too_many
    nobody_asks p l i there =
        ap₂ (λ (o : ℕ) (e : Node). eqb o p && eqb e.kind 5 && too_many u p e.a) (owner_is i there) (node_is i there)
        ∙ go (plan_of i there).plan (ℕ_discrete (plan_of i there).plan p)
      where
        go : (q : ℕ) → Dec (q ≡ p) → (eqb q p && true && too_many u p (entry t q).wait) ≡ false
        go q (yes e) =
            rw e
            (ap (λ (b : Bool). eqb p p && true && b)
            (too_many_as (plans m passed) p (entry t p).wait ∙ fits_in_first p l)
            ∙ and-false (eqb p p && true))
        go q (no e) = rw (ne_eqb q p e)

    pub waits_pass : (p : ℕ) → p < plan_count t → bad_wait u p ≡ false
    unfolding bad_wait
    waits_pass p l = rw (is_second u m.number) (none_below (asks_too_many u p) (node_count u) (nobody_asks p l))
