-- The bytes of a moved table: `in_version2` and `in_version1` have the form that Shape says. Assumes that the table has room for its header
-- and its plans.
use Prim.Native.Nat.{ℕ, ◌+◌, ◌*◌, ◌/◌, ◌%◌, ◌≤◌, ◌<◌}
use native.Mathlib.Omega.{arith}
use native.Mathlib.Nat.{add-zero}
use mathlib.Core.Path.{◌≡◌, refl, sym, ap, ◌∙◌}
use mathlib.Core.Bool.{false}
use mathlib.Core.List.{List, [], ◌∷◌, ◌++◌, append_assoc, append-nil}
use lib.ListN.{length, take, drop, length-drop}
use lib.Seq.{length-take-le, take_at, drop_at, drop-drop, take-append-le, drop-append-le, get_or-drop}
use Rattle.rules.specs.Bytes.{byte_at}
use Rattle.rules.specs.Table.{plan_count, entry}
use Rattle.rules.specs.WaitFor.{node, is_leaf}
use Rattle.versions.specs.Versions.{header_as, plan_as, plans_as, nodes_before, node_as, nodes_as, in_version2, number_waited, in_version1}
use Rattle.versions.proofs.Laid.{length_header, length_plan, length_plans, length_nodes, length_front, length_2}
use Rattle.faithful.proofs.InARow.{Row, piece_at, byte_of}
use Rattle.faithful.proofs.Shape.{Moved, HasNodes, same_count}

module _ (t : List ℕ) where
  -- plans and nodes lie in a row
  pub plans_row : (wait : ℕ → ℕ) → Row (plans_as t wait) (λ p. plan_as t p (wait p))
  unfolding plans_as
  plans_row wait = record { start = refl; more = λ k. refl }

  pub nodes_row : Row (nodes_as t) (node_as t)
  unfolding nodes_as
  nodes_row = record { start = refl; more = λ k. refl }

  module _ (room : 8 + 8 * plan_count t ≤ length t) where
    -- plan p of the first n, and whatever stands behind them
    plan_at :
        (wait : ℕ → ℕ) (rest : List ℕ) (p : ℕ) → p < plan_count t
        → take 8 (drop (8 * p) (plans_as t wait (plan_count t) ++ rest)) ≡ plan_as t p (wait p)
    plan_at wait rest p l =
        let plans : List ℕ = plans_as t wait (plan_count t) in
        let long = length_plans t wait (plan_count t) room in
        rw (drop-append-le (8 * p) plans rest (omega arith))
        (rw (take-append-le 8 (drop (8 * p) plans) rest (omega (arith, length-drop (8 * p) plans)))
        (piece_at (plans_as t wait) (λ p. plan_as t p (wait p)) (plans_row wait) (plan_count t) p (8 * p) 8 l
        (length_plans t wait p (omega arith))
        (length_plan t p (wait p) (omega arith))))

    -- a header and plans, and whatever stands behind them
    moved_as :
        (v : ℕ) (wait : ℕ → ℕ) (rest u : List ℕ) → u ≡ header_as t v ++ (plans_as t wait (plan_count t) ++ rest)
        → Moved t u v wait
    moved_as v wait rest u is =
        record {
          mark = rw spread (take_at (take 3 t) (v ∷ 0 ∷ behind) 3 three);
          number = omega (arith, third, fourth);
          others =
              ap (take 3) (sym (drop-drop 2 3 u))
              ∙ rw from_3
              (take_at (take 3 (drop 5 t)) plans 3 (length-take-le 3 (drop 5 t) (omega (arith, length-drop 5 t))));
          plans = λ p l.
              ap (take 8) (sym (drop-drop (8 * p) 8 u))
              ∙ rw (is, drop_at (header_as t v) plans 8 (length_header t v (omega arith))) (plan_at wait rest p l);
        }
      where
        plans : List ℕ
        plans = plans_as t wait (plan_count t) ++ rest

        behind : List ℕ
        behind = take 3 (drop 5 t) ++ plans

        spread : u ≡ take 3 t ++ (v ∷ 0 ∷ behind)
        spread = is ∙ simp append_assoc

        three : length (take 3 t) ≡ 3
        three = length-take-le 3 t (omega arith)

        from_3 : drop 3 u ≡ v ∷ 0 ∷ behind
        from_3 = rw spread (drop_at (take 3 t) (v ∷ 0 ∷ behind) 3 three)

        third : byte_at u 3 ≡ v
        third = sym (get_or-drop 3 u 0 0) ∙ rw from_3 refl

        fourth : byte_at u 4 ≡ 0
        fourth = sym (get_or-drop 3 u 1 0) ∙ rw from_3 refl

    pub moved_1 : Moved t (in_version1 t) 1 (number_waited t)
    unfolding in_version1
    moved_1 =
        moved_as 1 (number_waited t) [] (in_version1 t)
        (ap (λ (l : List ℕ). header_as t 1 ++ l) (sym (append-nil (plans_as t (number_waited t) (plan_count t)))))

    pub moved_2 : Moved t (in_version2 t) 2 (nodes_before t)
    unfolding in_version2
    moved_2 =
        let k : ℕ = nodes_before t (plan_count t) in
        moved_as 2 (nodes_before t) (k % 256 ∷ k / 256 ∷ nodes_as t (plan_count t)) (in_version2 t) (simp append_assoc)

-- Node i, where its four bytes are known.
pub read_node :
    (u part : List ℕ) (i : ℕ) → take 4 (drop (10 + 8 * plan_count u + 4 * i) u) ≡ part
    → node u i ≡ record { kind = byte_at part 0; a = byte_at part 1; b = byte_at part 2; last = byte_at part 3 }
read_node u part i is =
    rw (ap (byte_at u) (sym (add-zero at)) ∙ byte 0 (omega arith), byte 1 (omega arith), byte 2 (omega arith), byte 3 (omega arith)) refl
  where
    at : ℕ
    at = 10 + 8 * plan_count u + 4 * i

    byte : (j : ℕ) → j < 4 → byte_at u (at + j) ≡ byte_at part j
    byte j l = byte_of u part at 4 j is l

module _ (t : List ℕ) (room : 8 + 8 * plan_count t ≤ length t) where
  -- the number of nodes, and the nodes
  behind_front :
      drop (8 + 8 * plan_count t) (in_version2 t)
      ≡ nodes_before t (plan_count t) % 256 ∷ nodes_before t (plan_count t) / 256 ∷ nodes_as t (plan_count t)
  unfolding in_version2
  behind_front =
      let k : ℕ = nodes_before t (plan_count t) in
      let front : List ℕ = header_as t 2 ++ plans_as t (nodes_before t) (plan_count t) in
      ap (drop (8 + 8 * plan_count t)) (append_assoc front (k % 256 ∷ k / 256 ∷ []) (nodes_as t (plan_count t)))
      ∙ drop_at front (k % 256 ∷ k / 256 ∷ nodes_as t (plan_count t)) (8 + 8 * plan_count t) (length_front t room 2 (nodes_before t))

  count_byte :
      (i : ℕ)
      → byte_at (in_version2 t) (8 + 8 * plan_count t + i)
      ≡ byte_at (nodes_before t (plan_count t) % 256 ∷ nodes_before t (plan_count t) / 256 ∷ nodes_as t (plan_count t)) i
  count_byte i =
      sym (get_or-drop (8 + 8 * plan_count t) (in_version2 t) i 0) ∙ ap (λ (l : List ℕ). byte_at l i) behind_front

  pub has_nodes : HasNodes t (in_version2 t)
  has_nodes =
      record {
        long = length_2 t room;
        many =
            rw (same_count (moved_2 t room))
            (omega (arith, count_byte 1, sym (ap (byte_at (in_version2 t)) (add-zero (8 + 8 * plan_count t))) ∙ count_byte 0));
        nodes = λ p l parent.
            read_node (in_version2 t) (5 ∷ (entry t p).wait ∷ 0 ∷ 0 ∷ []) (nodes_before t p)
            (rw (same_count (moved_2 t room)) (four p l parent));
      }
    where
      four :
          (p : ℕ) → p < plan_count t → is_leaf t p ≡ false
          → take 4 (drop (10 + 8 * plan_count t + 4 * nodes_before t p) (in_version2 t)) ≡ 5 ∷ (entry t p).wait ∷ 0 ∷ 0 ∷ []
      four p l parent =
          let n : ℕ = plan_count t in
          let k : ℕ = nodes_before t p in
          let its : node_as t p ≡ 5 ∷ (entry t p).wait ∷ 0 ∷ 0 ∷ [] = rw parent refl in
          let here : 10 + 8 * n + 4 * k ≡ 8 + 8 * n + (2 + 4 * k) = omega arith in
          ap (λ (i : ℕ). take 4 (drop i (in_version2 t))) here
          ∙ ap (take 4) (sym (drop-drop (2 + 4 * k) (8 + 8 * n) (in_version2 t)))
          ∙ ap (λ (l : List ℕ). take 4 (drop (2 + 4 * k) l)) behind_front
          ∙ ap (take 4) (sym (drop-drop (4 * k) 2 (nodes_before t n % 256 ∷ nodes_before t n / 256 ∷ nodes_as t n)))
          ∙ piece_at (nodes_as t) (node_as t) (nodes_row t) n p (4 * k) 4 l (length_nodes t p) (ap length its)
          ∙ its
