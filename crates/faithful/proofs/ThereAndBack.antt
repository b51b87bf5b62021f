-- A table that may be moved to version 2 is, moved there and back, the same byte for byte. So is one that may be moved to version 1, moved
-- there and back, where its nodes stand in plan order, as those of a table moved to version 2 do. Assumes nothing.
use Prim.Native.Nat.{ℕ, suc, ◌+◌, ◌*◌, ◌/◌, ◌%◌, ◌≤◌, ◌<◌}
use native.Mathlib.Omega.{arith}
use mathlib.Core.Path.{◌≡◌, refl, sym, ap, ap₂, ◌∙◌}
use mathlib.Core.Bool.{Bool, true, false, cond}
use mathlib.Core.List.{List, [], ◌∷◌, ◌++◌, append_assoc}
use lib.ListN.{length, take, drop, take-append-drop, length-drop}
use lib.Seq.{take_all, take-suc, take-add, drop-cons, drop-drop, get_or-drop}
use Rattle.rules.specs.Bytes.{byte_at}
use Rattle.rules.specs.Table.{plan_count, entry}
use Rattle.rules.specs.WaitFor.{node_count, node, is_leaf}
use Rattle.rules.specs.declared.Node.{Node}
use Rattle.versions.specs.Versions.{
  header_as,
  plan_as,
  plans_as,
  nodes_before,
  node_as,
  nodes_as,
  in_version2,
  number_waited,
  in_version1,
  in_plan_order,
}
use Rattle.faithful.proofs.InARow.{Row, same_row}
use Rattle.faithful.proofs.Shape.{Moved, same_count, same_front, leaf_wait, parent_wait, same_leaf, same_nodes}
use Rattle.faithful.proofs.MovedBytes.{plans_row, nodes_row, read_node, moved_2, has_nodes, moved_1}
use Rattle.faithful.proofs.Passing.{MayMoveTo2, MayMoveTo1, size_1, size_2, room, few_nodes}
use Rattle.faithful.proofs.OneKind.{node_plain, begins_there}
use Rattle.faithful.proofs.PlanOrder.{numbered_in_order, wait_before, count_before}

-- The header and the plans of a table as its bytes.
module _ (t : List ℕ) where
  header_is : (v : ℕ) → 8 ≤ length t → byte_at t 3 ≡ v → byte_at t 4 ≡ 0 → header_as t v ≡ take 8 t
  header_is v room third fourth =
      append_assoc (take 3 t) (v ∷ 0 ∷ []) (take 3 (drop 5 t))
      ∙ ap₂ (λ (a b : ℕ). take 3 t ++ (a ∷ b ∷ take 3 (drop 5 t))) (sym third) (sym fourth)
      ∙ sym
      (take-add 3 5 t
      ∙ ap (λ (l : List ℕ). take 3 t ++ take 5 l)
      (drop-cons t 3 0 (omega arith) ∙ ap (λ (l : List ℕ). byte_at t 3 ∷ l) (drop-cons t 4 0 (omega arith))))

  plan_is :
      (p : ℕ) → 16 + 8 * p ≤ length t → take 7 (drop (8 + 8 * p) t) ++ ((entry t p).wait ∷ []) ≡ take 8 (drop (8 + 8 * p) t)
  plan_is p room =
      let here : List ℕ = drop (8 + 8 * p) t in
      sym
      (take-suc here 7 0 (omega (arith, length-drop (8 + 8 * p) t))
      ∙ ap (λ (b : ℕ). take 7 here ++ (b ∷ [])) (get_or-drop (8 + 8 * p) t 7 0))

  plans_are : Row (λ k. take (8 * k) (drop 8 t)) (λ p. take 8 (drop (8 + 8 * p) t))
  plans_are =
      record {
        start = refl;
        more = λ k.
            let size : 8 * suc k ≡ 8 * k + 8 = omega arith in
            ap (λ (n : ℕ). take n (drop 8 t)) size
            ∙ take-add (8 * k) 8 (drop 8 t)
            ∙ ap (λ (l : List ℕ). take (8 * k) (drop 8 t) ++ take 8 l) (drop-drop (8 * k) 8 t);
      }

-- A moved table, laid out again with the version and the waits of the first, has the first's header and plans.
module _
    {t u : List ℕ}
    {v : ℕ}
    {wait : ℕ → ℕ}
    (is : Moved t u v wait)
    (room : 8 + 8 * plan_count t ≤ length t)
    (old : ℕ)
    (third : byte_at t 3 ≡ old)
    (fourth : byte_at t 4 ≡ 0)
    (again : ℕ → ℕ)
    (same : (p : ℕ) → p < plan_count t → is_leaf t p ≡ false → again p ≡ (entry t p).wait)
  where
    plan_again : (p : ℕ) → p < plan_count t → plan_as u p (again p) ≡ take 8 (drop (8 + 8 * p) t)
    plan_again p l =
        ap₂ (λ (front : List ℕ) (b : ℕ). front ++ (b ∷ [])) (same_front is room p l) byte
        ∙ plan_is t p (omega arith)
      where
        go : (leaf : Bool) → is_leaf t p ≡ leaf → cond leaf (entry u p).wait (again p) ≡ (entry t p).wait
        go true leaf = leaf_wait is room p l leaf
        go false parts = same p l parts

        byte : cond (is_leaf u p) (entry u p).wait (again p) ≡ (entry t p).wait
        byte = ap (λ (b : Bool). cond b (entry u p).wait (again p)) (same_leaf is room p l) ∙ go (is_leaf t p) refl

    laid_again : header_as u old ++ plans_as u again (plan_count u) ≡ take (8 + 8 * plan_count t) t
    laid_again =
        ap₂ (λ (a b : List ℕ). a ++ b)
        (ap₂ (λ (a b : List ℕ). a ++ (old ∷ 0 ∷ []) ++ b) is.mark is.others ∙ header_is t old (omega arith) third fourth)
        (ap (plans_as u again) (same_count is)
        ∙ same_row (plans_as u again) (λ p. plan_as u p (again p)) (plans_row u again) _ _ (plans_are t) (plan_count t) plan_again)
        ∙ sym (take-add 8 (8 * plan_count t) t)

pub there_and_back : {t : List ℕ} → MayMoveTo2 t → in_version1 (in_version2 t) ≡ t
unfolding in_version1
there_and_back {t} may =
    laid_again (moved_2 t inside) inside 1 (omega arith) (omega arith) (number_waited u) same
    ∙ take_all (8 + 8 * plan_count t) t (omega (arith, may.passed.long, size_1 t may.first))
  where
    u : List ℕ
    u = in_version2 t

    inside : 8 + 8 * plan_count t ≤ length t
    inside = room may.passed

    same : (p : ℕ) → p < plan_count t → is_leaf t p ≡ false → number_waited u p ≡ (entry t p).wait
    same p l parts =
        ap (λ (i : ℕ). (node u i).a) (parent_wait (moved_2 t inside) inside p l parts)
        ∙ ap (λ (e : Node). e.a) ((has_nodes t inside).nodes p l parts)

-- four bytes, one by one
four : (l : List ℕ) → 4 ≤ length l → let m = take 4 l in m ≡ byte_at m 0 ∷ byte_at m 1 ∷ byte_at m 2 ∷ byte_at m 3 ∷ []
four [] room = absurd (omega arith)
four (x ∷ []) room = absurd (omega arith)
four (x ∷ y ∷ []) room = absurd (omega arith)
four (x ∷ y ∷ z ∷ []) room = absurd (omega arith)
four (x ∷ y ∷ z ∷ w ∷ l) room = refl

-- What stands behind the plans of a table of version 2.
module _ (t : List ℕ) where
  node_is :
      (i : ℕ) → 14 + 8 * plan_count t + 4 * i ≤ length t
      → take 4 (drop (4 * i) (drop (10 + 8 * plan_count t) t))
      ≡ (node t i).kind ∷ (node t i).a ∷ (node t i).b ∷ (node t i).last ∷ []
  node_is i room =
      let at : ℕ = 10 + 8 * plan_count t + 4 * i in
      ap (take 4) (drop-drop (4 * i) (10 + 8 * plan_count t) t)
      ∙ four (drop at t) (omega (arith, length-drop at t))
      ∙ ap (λ (e : Node). e.kind ∷ e.a ∷ e.b ∷ e.last ∷ []) (sym (read_node t (take 4 (drop at t)) i refl))

  -- nodes lie in a row: none for a leaf, one for each plan with children
  nodes_are :
      Row (λ k. take (4 * nodes_before t k) (drop (10 + 8 * plan_count t) t))
      (λ p. take (4 * cond (is_leaf t p) 0 1) (drop (4 * nodes_before t p) (drop (10 + 8 * plan_count t) t)))
  unfolding nodes_before
  nodes_are =
      record {
        start = refl;
        more = λ k.
            let here : List ℕ = drop (10 + 8 * plan_count t) t in
            let size : 4 * nodes_before t (suc k) ≡ 4 * nodes_before t k + 4 * cond (is_leaf t k) 0 1 = omega arith in
            ap (λ (n : ℕ). take n here) size ∙ take-add (4 * nodes_before t k) (4 * cond (is_leaf t k) 0 1) here;
      }

  -- the number of nodes in its two bytes
  count_is :
      (k : ℕ) → k ≤ 255 → node_count t ≡ k → 10 + 8 * plan_count t ≤ length t
      → drop (8 + 8 * plan_count t) t ≡ k % 256 ∷ k / 256 ∷ drop (10 + 8 * plan_count t) t
  count_is k few is room =
      let at : ℕ = 8 + 8 * plan_count t in
      let low : byte_at t at ≡ k % 256 = omega arith in
      let high : byte_at t (at + 1) ≡ k / 256 = omega arith in
      let one : suc at ≡ at + 1 = omega arith in
      let two : suc (at + 1) ≡ 10 + 8 * plan_count t = omega arith in
      drop-cons t at 0 (omega arith)
      ∙ ap₂ (λ (b : ℕ) (l : List ℕ). b ∷ l) low
      (ap (λ (i : ℕ). drop i t) one
      ∙ drop-cons t (at + 1) 0 (omega arith)
      ∙ ap₂ (λ (b i : ℕ). b ∷ drop i t) high two)

module _ {t : List ℕ} (may : MayMoveTo1 t) where
  inside : 8 + 8 * plan_count t ≤ length t
  inside = room may.passed

  moved : Moved t (in_version1 t) 1 (number_waited t)
  moved = moved_1 t inside

  long_2 : length t ≡ 10 + 8 * plan_count t + 4 * node_count t
  long_2 = may.passed.long ∙ size_2 t may.second

  module _ (in_order : in_plan_order t ≡ true) where
    numbered : (p : ℕ) → p < plan_count t → is_leaf t p ≡ false → (entry t p).wait ≡ nodes_before t p
    numbered = wait_before t may in_order

    -- byte 7 of a plan with children, moved to version 1, is the m of its node
    m_of : (p : ℕ) → p < plan_count t → is_leaf t p ≡ false → (entry (in_version1 t) p).wait ≡ (node t (nodes_before t p)).a
    m_of p l parts = parent_wait moved inside p l parts ∙ ap (λ (i : ℕ). (node t i).a) (numbered p l parts)

    -- so its new node is that node
    node_back :
        (p : ℕ) → p < plan_count t
        → node_as (in_version1 t) p
        ≡ take (4 * cond (is_leaf t p) 0 1) (drop (4 * nodes_before t p) (drop (10 + 8 * plan_count t) t))
    node_back p l =
        ap (λ (b : Bool). cond b [] (5 ∷ (entry (in_version1 t) p).wait ∷ 0 ∷ 0 ∷ [])) (same_leaf moved inside p l)
        ∙ go (is_leaf t p) refl
      where
        go :
            (leaf : Bool) → is_leaf t p ≡ leaf
            → cond leaf [] (5 ∷ (entry (in_version1 t) p).wait ∷ 0 ∷ 0 ∷ [])
            ≡ take (4 * cond leaf 0 1) (drop (4 * nodes_before t p) (drop (10 + 8 * plan_count t) t))
        go true parts = refl
        go false parts =
            let i : ℕ = nodes_before t p in
            let there : i < node_count t = omega (arith, numbered p l parts, begins_there may p l parts) in
            ap (λ (m : ℕ). 5 ∷ m ∷ 0 ∷ 0 ∷ []) (m_of p l parts)
            ∙ sym (node_is t i (omega (arith, long_2)) ∙ node_plain may i there)

    nodes_back : nodes_as (in_version1 t) (plan_count t) ≡ drop (10 + 8 * plan_count t) t
    nodes_back =
        let here : List ℕ = drop (10 + 8 * plan_count t) t in
        same_row (nodes_as (in_version1 t)) (node_as (in_version1 t)) (nodes_row (in_version1 t)) _ _ (nodes_are t) (plan_count t) node_back
        ∙ take_all (4 * nodes_before t (plan_count t)) here
        (omega (arith, length-drop (10 + 8 * plan_count t) t, long_2, count_before t may in_order))

    plans_back :
        header_as (in_version1 t) 2 ++ plans_as (in_version1 t) (nodes_before (in_version1 t)) (plan_count (in_version1 t))
        ≡ take (8 + 8 * plan_count t) t
    plans_back =
        laid_again moved inside 2 (omega arith) (omega arith) (nodes_before (in_version1 t))
        (λ p l parts. same_nodes moved inside p (omega arith) ∙ sym (numbered p l parts))

  pub back_and_there : in_plan_order t ≡ true → in_version2 (in_version1 t) ≡ t
  unfolding in_version2
  back_and_there in_order =
      let u : List ℕ = in_version1 t in
      let n : ℕ = plan_count t in
      let k : ℕ = nodes_before t n in
      let behind : nodes_before u (plan_count u) ≡ k =
      ap (nodes_before u) (same_count moved) ∙ same_nodes moved inside n (omega arith) in
      ap₂ (λ (front : List ℕ) (k : ℕ). front ++ (k % 256 ∷ k / 256 ∷ []) ++ nodes_as u (plan_count u)) (plans_back in_order) behind
      ∙ ap (λ (l : List ℕ). take (8 + 8 * n) t ++ (k % 256 ∷ k / 256 ∷ []) ++ l)
      (ap (nodes_as u) (same_count moved) ∙ nodes_back in_order)
      ∙ append_assoc (take (8 + 8 * n) t) (k % 256 ∷ k / 256 ∷ []) (drop (10 + 8 * n) t)
      ∙ ap (λ (l : List ℕ). take (8 + 8 * n) t ++ l)
      (sym (count_is t k (few_nodes may.passed) (count_before t may in_order) (omega (arith, long_2))))
      ∙ take-append-drop (8 + 8 * n) t

-- A table moved to version 2 has its nodes in plan order.
pub in_order_2 : {t : List ℕ} → MayMoveTo2 t → in_plan_order (in_version2 t) ≡ true
in_order_2 {t} may =
    numbered_in_order (in_version2 t) (λ p l parts.
    let inside : 8 + 8 * plan_count t ≤ length t = room may.passed in
    let is = moved_2 t inside in
    let small : p < plan_count t = rw (same_count is) at l in
    parent_wait is inside p small (sym (same_leaf is inside p small) ∙ parts) ∙ sym (same_nodes is inside p (omega arith)))
