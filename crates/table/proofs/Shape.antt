-- Laws of check 6: the parent rule and the ranks together. Assumes nothing.
use Prim.Native.Nat.{ℕ, zero, suc, ◌+◌, ◌-◌, ◌*◌, ◌≤◌, ◌<◌}
use native.Mathlib.Omega.{arith}
use mathlib.Core.Path.{◌≡◌, refl, sym, ap, ◌∙◌}
use mathlib.Core.Bool.{true, false, not, or-true}
use mathlib.Core.List.{List}
use lib.Dec.{eqb, leb}
use lib.ListN.{length}
use borrow.Author.Tests.{leb-false, not-false}
use Rattle.rules.specs.Lists.{no_plan}
use Rattle.rules.specs.Bytes.{byte_at}
use Rattle.rules.specs.Table.{parent, rank, is_or_is_above}
use Rattle.rules.specs.Answers.{unrooted, bad_parent}
use Rattle.rules.proofs.Tree.{rule_down}
use Rattle.children.specs.Sets.{Rooted, Ranked}
use Rattle.table.specs.Facts.{Shaped}
use Rattle.lowest.specs.Lowest.{Lowest}
use Rattle.std.specs.Prelude.{Option, Some, None}
use Rattle.std.specs.Option.{unwrap_or, option_or}

-- where the first m plans keep the parent rule, they have earlier parents
pub rooted_first :
    (t : List ℕ) (m : ℕ) → m ≤ 256 → 8 + 8 * m ≤ length t → ((k : ℕ) → k < m → unrooted t k ≡ false) → Rooted t m
unfolding unrooted
rooted_first t m small room rule =
    record { small = small; room = room; down = rule_down t m (λ k l. not-false _ (rule (suc k) l)) }

pub unrooted_root : (t : List ℕ) → unrooted t 0 ≡ not (eqb (parent t 0) no_plan)
unfolding unrooted
unrooted_root t = refl

pub unrooted_next : (t : List ℕ) (p : ℕ) → 0 < p → unrooted t p ≡ not (is_or_is_above t (parent t p) (p - 1) (p - 1))
unfolding unrooted
unrooted_next t zero h = absurd (omega arith)
unrooted_next t (suc k) h =
    let e : suc k - 1 ≡ k = omega arith in
    rw e

-- so have those before the first that breaks it
pub rooted_to : (t : List ℕ) (n : ℕ) → n ≤ 256 → 8 + 8 * n ≤ length t → (r : Option ℕ) → Lowest (unrooted t) n r → Rooted t (unwrap_or r n)
rooted_to t n small room None keeps = rooted_first t n small room keeps
rooted_to t n small room (Some r) (l, breaks, keeps) = rooted_first t r (omega arith) (omega arith) keeps

-- what is found is not nothing
some_none : {r : ℕ} → Some r ≡ None → ⊥
some_none e = grind arith

-- the lowest plan a that breaks the parent rule, the ranks of the plans before it, and the lowest b of these that is a 65th child
module _
    (t : List ℕ)
    (n : ℕ)
    (some : 0 < n)
    (small : n ≤ 256)
    (room : 8 + 8 * n ≤ length t)
    (ranks counts : List ℕ)
  where
    module _ (m : ℕ) (ranked : Ranked t m ranks counts) where
      rank_test : (p : ℕ) → p < m → leb 64 (rank t p) ≡ leb 64 (byte_at ranks p)
      rank_test p l = ap (leb 64) (sym (ranked.ranked p l))

      good : (k : ℕ) → k < m → unrooted t k ≡ false → leb 64 (byte_at ranks k) ≡ false → bad_parent t k ≡ false
      unfolding bad_parent
      good k l keeps narrow = rw (keeps, rank_test k l) narrow

      crowded : (k : ℕ) → k < m → leb 64 (byte_at ranks k) ≡ true → bad_parent t k ≡ true
      unfolding bad_parent
      crowded k l many = rw (rank_test k l, many) (or-true (unrooted t k))

    breaks : (k : ℕ) → unrooted t k ≡ true → bad_parent t k ≡ true
    unfolding bad_parent
    breaks k h = rw h refl

    pub shaped :
        (a b : Option ℕ) → Lowest (unrooted t) n a → Ranked t (unwrap_or a n) ranks counts
        → Lowest (λ p. leb 64 (byte_at ranks p)) (unwrap_or a n) b → Shaped t n ranks counts (option_or b a)
    shaped None None keeps ranked narrow =
        record {
          lowest = λ k l. good n ranked k l (keeps k l) (narrow k l);
          rooted = λ e. rooted_first t n small room keeps;
          ranked = λ e. ranked;
          narrow = λ e.
              record {
                some = some;
                ranked = ranked.ranked;
                narrow = λ p l. leb-false 64 (rank t p) (rank_test n ranked p l ∙ narrow p l);
              };
        }
    shaped None (Some b) keeps ranked (l, many, before) =
        record {
          lowest = (l, crowded n ranked b l many, λ k m. good n ranked k (omega (arith, l)) (keeps k (omega (arith, l))) (before k m));
          rooted = λ e. absurd (some_none e);
          ranked = λ e. absurd (some_none e);
          narrow = λ e. absurd (some_none e);
        }
    shaped (Some a) None (l, bad, before) ranked narrow =
        record {
          lowest = (l, breaks a bad, λ k m. good a ranked k m (before k m) (narrow k m));
          rooted = λ e. absurd (some_none e);
          ranked = λ e. absurd (some_none e);
          narrow = λ e. absurd (some_none e);
        }
    shaped (Some a) (Some b) (l, bad, before) ranked (l', many, before') =
        record {
          lowest = (omega (arith, l, l'), crowded a ranked b l' many, λ k m. good a ranked k (omega (arith, l')) (before k (omega (arith, l'))) (before' k m));
          rooted = λ e. absurd (some_none e);
          ranked = λ e. absurd (some_none e);
          narrow = λ e. absurd (some_none e);
        }
