-- A table that passes check 22 has formulas that can be evaluated. Assumes nothing.
use Prim.Native.Nat.{ℕ, ◌+◌, ◌*◌, ◌≤◌}
use native.Mathlib.Omega.{arith}
use mathlib.Core.Path.{◌≡◌, ap, ◌∙◌}
use mathlib.Core.Bool.{Bool, false, cond, not, ◌||◌}
use mathlib.Core.List.{List}
use lib.Dec.{eqb, leb}
use lib.ListN.{length}
use borrow.Author.Tests.{ltb-false}
use Rattle.rules.specs.Lists.{some}
use Rattle.rules.specs.Table.{plan_count}
use Rattle.rules.specs.WaitFor.{asks, operands, first_version, node_count, node, table_size, uses}
use Rattle.rules.specs.Answers.{stray_first, bad_bytes, bad_node, formulas_check, Done}
use Rattle.rules.proofs.Least.{nowhere}
use Rattle.rules.proofs.Outcomes.{first_done, then_done, if_done, at_done}
use Rattle.rules.proofs.Tree.{or_left, or_right}
use Rattle.formulas.specs.Asked.{Formed, Waiting}

-- where a table of version 2 ends
pub second_size : (t : List ℕ) → first_version t ≡ false → length t ≡ table_size t → length t ≡ 8 + 8 * plan_count t + (2 + 4 * node_count t)
second_size t second long = long ∙ ap (λ (b : Bool). 8 + 8 * plan_count t + cond b 0 (2 + 4 * node_count t)) second

-- and that its plans lie within it, as those of version 1
pub plans_within : (t : List ℕ) → length t ≡ table_size t → 8 + 8 * plan_count t ≤ length t
plans_within t long = omega (arith, long)

operands_up : (t : List ℕ) (i : ℕ) → bad_node t i ≡ false → some (λ o. leb o i || leb (node_count t) o) (operands (asks (node t i))) ≡ false
unfolding bad_node
operands_up t i good =
    let bad : Bool = some (λ o. leb o i || leb (node_count t) o) (operands (asks (node t i))) in
    or_right (bad_bytes (node t i)) bad (or_left (bad_bytes (node t i) || bad) (not (eqb (uses t i) 1)) good)

pub formed : (t : List ℕ) → first_version t ≡ false → length t ≡ table_size t → formulas_check t ≡ Done → Formed t
unfolding formulas_check
formed t second long done =
    let r₁ = then_done _ _ done in
    let r₂ = then_done _ _ r₁ in
    record {
      room = omega (arith, second_size t second long);
      few = ltb-false _ _ (if_done _ _ (first_done _ _ done));
      up = λ i l. operands_up t i (nowhere (bad_node t) (node_count t) (at_done _ _ (first_done _ _ r₂)) i l);
      first = nowhere (stray_first t) (plan_count t) (at_done _ _ (first_done _ _ r₁));
    }

pub waiting :
    (t : List ℕ) (n : ℕ) → n ≡ plan_count t → n ≤ 256 → length t ≡ table_size t → (first_version t ≡ false → formulas_check t ≡ Done)
    → Waiting t n
waiting t n whole small long done =
    record {
      whole = whole;
      small = small;
      room = omega (arith, plans_within t long);
      formed = λ second. formed t second long (done second);
    }
