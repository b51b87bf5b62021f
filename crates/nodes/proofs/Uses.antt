-- How the uses of nodes are counted. Assumes nothing.
use Prim.Native.Nat.{ℕ, ◌+◌, ◌<◌, min}
use native.Mathlib.Omega.{arith}
use native.Mathlib.Nat.{add-zero}
use native.Mathlib.Numerals.{add-one}
use native.Mathlib.Decide.{ℕ_discrete}
use mathlib.Core.Path.{◌≡◌, refl, sym, ap, ap₂, subst, ◌∙◌}
use mathlib.Core.Bool.{Bool, true, false, cond, not, ◌||◌}
use mathlib.Core.List.{List, [], ◌∷◌, ◌++◌}
use lib.Dec.{eqb}
use lib.ListN.{length, length-set}
use lib.Seq.{get_or-set_same, get_or-set_other}
use borrow.Author.Tests.{eq-eqb, ne_eqb}
use Rattle.rules.specs.Bytes.{byte_at}
use Rattle.rules.specs.Lists.{count}
use Rattle.rules.specs.Table.{entry}
use Rattle.rules.specs.WaitFor.{asks, operands, node, is_leaf, first_nodes, asked_nodes, uses}
use Rattle.rules.specs.Answers.{bad_bytes, bad_node}
use Rattle.nodes.specs.Checking.{HasNodes, bad_operands, capped, used_by, Uses, used_once_more, used_each}

pub count_append : (f : ℕ → Bool) (l m : List ℕ) → count f (l ++ m) ≡ count f l + count f m
count_append f [] m = omega arith
count_append f (k ∷ ks) m = rw (count_append f ks m) (omega arith)

-- what a byte tells after one more use, and whether it tells of exactly one
capped_more : (c : ℕ) → min (capped c + 1) 255 ≡ capped (c + 1)
capped_more c = omega arith

capped_one : (c : ℕ) → eqb (capped c) 1 ≡ eqb c 1
capped_one c = go (ℕ_discrete c 1)
  where
    go : Dec (c ≡ 1) → eqb (capped c) 1 ≡ eqb c 1
    go (yes e) = eq-eqb (capped c) 1 (omega arith) ∙ sym (eq-eqb c 1 e)
    go (no e) = ne_eqb (capped c) 1 (λ d. e (omega arith)) ∙ sym (ne_eqb c 1 e)

-- bytes that tell how often each node is used
abbrev Tell : List ℕ → (ℕ → ℕ) → Type 0
Tell buffer uses = (j : ℕ) → j < 256 → byte_at buffer j ≡ capped (uses j)

-- one more use of node x, and of each of some nodes
used_more :
    (buffer : List ℕ) (uses : ℕ → ℕ) → length buffer ≡ 256 → Tell buffer uses → (x : ℕ)
    → Tell (used_once_more buffer x) (λ j. uses j + cond (eqb j x) 1 0)
used_more buffer uses room are x j l = go (ℕ_discrete j x)
  where
    go : Dec (j ≡ x) → byte_at (used_once_more buffer x) j ≡ capped (uses j + cond (eqb j x) 1 0)
    go (yes e) =
        rw (eq-eqb j x e)
        (rw (sym e)
        (get_or-set_same buffer j _ 0 (omega arith)
        ∙ ap (λ (b : ℕ). min (b + 1) 255) (are j l)
        ∙ capped_more (uses j)))
    go (no e) = rw (ne_eqb j x e) (get_or-set_other buffer x j _ 0 e ∙ are j l ∙ ap capped (sym (add-zero (uses j))))

length_each : (js buffer : List ℕ) → length (used_each buffer js) ≡ length buffer
length_each [] buffer = refl
length_each (x ∷ xs) buffer = length_each xs (used_once_more buffer x) ∙ length-set buffer x _

each_more :
    (js buffer : List ℕ) (uses : ℕ → ℕ) → length buffer ≡ 256 → Tell buffer uses → Tell (used_each buffer js) (λ j. uses j + count (eqb j) js)
each_more [] buffer uses room are j l = are j l ∙ ap capped (sym (add-zero (uses j)))
each_more (x ∷ xs) buffer uses room are j l =
    each_more xs (used_once_more buffer x) (λ j. uses j + cond (eqb j x) 1 0) (length-set buffer x _ ∙ room) (used_more buffer uses room are x) j l
    ∙ ap capped (omega arith)

-- the uses after one more plan, and after one more node
module _ (t : List ℕ) (p : ℕ) (buffer : List ℕ) (known : Uses t p 0 buffer) where
  abbrev firsts : Bool → List ℕ
  firsts leaf = cond leaf [] ((entry t p).wait ∷ [])

  next_first : Uses t (p + 1) 0 (used_each buffer (firsts (is_leaf t p)))
  unfolding first_nodes asked_nodes
  next_first =
      rw (add-one p)
      record {
        room = length_each (firsts (is_leaf t p)) buffer ∙ known.room;
        used = λ j l.
            each_more (firsts (is_leaf t p)) buffer (used_by t p 0) known.room known.used j l
            ∙ ap capped (omega (arith, count_append (eqb j) (first_nodes t p) (firsts (is_leaf t p))));
      }

  pub leaf_first : is_leaf t p ≡ true → Uses t (p + 1) 0 buffer
  leaf_first is = subst (λ (leaf : Bool). Uses t (p + 1) 0 (used_each buffer (firsts leaf))) is next_first

  pub parent_first : is_leaf t p ≡ false → Uses t (p + 1) 0 (used_once_more buffer (entry t p).wait)
  parent_first is = subst (λ (leaf : Bool). Uses t (p + 1) 0 (used_each buffer (firsts leaf))) is next_first

pub next_asked :
    (t : List ℕ) (n i : ℕ) (buffer : List ℕ) → Uses t n i buffer → Uses t n (i + 1) (used_each buffer (operands (asks (node t i))))
unfolding asked_nodes
next_asked t n i buffer known =
    let more : List ℕ = operands (asks (node t i)) in
    rw (add-one i)
    record {
      room = length_each more buffer ∙ known.room;
      used = λ j l.
          each_more more buffer (used_by t n i) known.room known.used j l
          ∙ ap capped (omega (arith, count_append (eqb j) (asked_nodes t i) more));
    }

-- the test of a node by its byte
pub bad_node_is :
    (t : List ℕ) (n k i : ℕ) (buffer : List ℕ) → HasNodes t n k → Uses t n k buffer → i < 256
    → bad_node t i ≡ (bad_bytes (node t i) || bad_operands (asks (node t i)) i k || not (eqb (byte_at buffer i) 1))
unfolding bad_node uses
bad_node_is t n k i buffer has known l =
    ap₂ (λ (k : ℕ) (once : Bool). bad_bytes (node t i) || bad_operands (asks (node t i)) i k || not once) (sym has.nodes)
    (sym
    (ap (λ (b : ℕ). eqb b 1) (known.used i l)
    ∙ capped_one (used_by t n k i)
    ∙ ap₂ (λ (n k : ℕ). eqb (used_by t n k i) 1) has.whole has.nodes))
