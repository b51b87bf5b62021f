-- Laws of checks 10 to 12, and of what a call that passes lets do. Assumes nothing.
use Prim.Native.Nat.{ℕ, ◌+◌, ◌*◌, ◌≤◌, ◌<◌}
use native.Mathlib.Omega.{arith}
use mathlib.Core.Path.{◌≡◌, sym, ap, ◌∙◌}
use mathlib.Core.Bool.{Bool, true, false, not, ◌||◌}
use mathlib.Core.List.{List}
use lib.Dec.{eqb}
use lib.ListN.{length}
use Rattle.rules.specs.Bytes.{byte_at}
use Rattle.rules.specs.Lists.{least}
use Rattle.rules.specs.Table.{plan_count, entry}
use Rattle.rules.specs.Words.{word}
use Rattle.rules.specs.HandedIn.{bad_state}
use Rattle.rules.specs.Answers.{wrong_word, bad_word, rule_check, table_check, call_words_check, lent_check, call_check, Outcome, Done}
use Rattle.rules.specs.declared.PlanEntry.{PlanEntry}
use Rattle.rules.specs.declared.Refusal.{Refusal}
use Rattle.rules.specs.declared.Refusal.TheVariants.{Lengths, State, Word}
use Rattle.rules.proofs.Outcomes.{
  pass,
  stop,
  pass_at,
  stop_at,
  pass_at_last,
  stop_at_last,
  then_next,
  then_stops,
  refused_not_done,
}
use Rattle.rules.proofs.Tree.{passes, tree}
use Rattle.children.specs.Sets.{Rooted}
use Rattle.lowest.specs.Lowest.{Lowest}
use Rattle.lowest.proofs.Lowest.{lowest_is}
use Rattle.table.specs.Facts.{Facts}
use Rattle.table.proofs.Reading.{prepared}
use Rattle.demands.proofs.PassedCall.{lengths_agree, table_passes, lengths, handed_in}
use Rattle.lent.specs.Calls.{Counted, Tabled, Called, MayMove}
use Rattle.std.specs.Prelude.{Option, Some, None, Err}

-- a table that passes: its n plans have earlier parents
pub rooted : (t : List ℕ) → table_check t ≡ Done → (n : ℕ) → n ≡ plan_count t → Rooted t n
rooted t done n whole =
    let shape = tree t (passes t done) in
    record {
      small = omega (arith, shape.small);
      room = omega (arith, (passes t done).long);
      down = λ p h l. shape.down p h (omega arith);
    }

-- check 12 of plan p, from what the code has in hand
pub word_tested :
    (t w : List ℕ) (n : ℕ) (counts : List ℕ) → Counted t n counts w → (p : ℕ) → p < n → (e : PlanEntry) (x : ℕ) → e ≡ entry t p
    → x ≡ word w p → bad_word t w p ≡ wrong_word e (byte_at counts p) x
unfolding bad_word
word_tested t w n counts counted p l e x ee ex = rw (ee, ex, counted.counted p l)

-- a search over the n plans of a table
lowest_of :
    (t : List ℕ) (n : ℕ) → n ≡ plan_count t → (f : ℕ → Bool) (r : Option ℕ) → Lowest f n r → least f (plan_count t) ≡ r
lowest_of t n whole f r lowest = ap (least f) (sym whole) ∙ lowest_is f n r lowest

-- checks 10 to 12: where they stop
module _ (t s w c : List ℕ) (n : ℕ) (whole : n ≡ plan_count t) where
  -- check 10, as the code makes it
  abbrev differ : Bool
  differ = not (eqb (length s) n) || not (eqb (length w) (4 * n)) || not (eqb (length c) n)

  pub stops_at_lengths : differ ≡ true → lent_check t s w c ≡ Err Lengths
  unfolding lent_check
  stops_at_lengths e = stop _ _ _ (rw whole at e)

  module _ (agree : differ ≡ false) where
    -- the states' and the words' lengths
    pub agreed : (length s ≡ n) × (length w ≡ 4 * n)
    agreed =
        let long = lengths_agree t s w c (rw whole at agree) in
        (omega (arith, whole, long.0), omega (arith, whole, long.1))

    pub stops_at_state : (p : ℕ) → Lowest (bad_state t s) n (Some p) → lent_check t s w c ≡ Err (State p)
    unfolding lent_check
    stops_at_state p lowest = pass _ _ _ (rw whole at agree) ∙ stop_at _ _ _ p (lowest_of t n whole _ _ lowest)

    pub only_words : Lowest (bad_state t s) n None → lent_check t s w c ≡ call_words_check t w
    unfolding lent_check
    only_words lowest = pass _ _ _ (rw whole at agree) ∙ pass_at _ _ _ (lowest_of t n whole _ _ lowest)

-- check 12, by the lowest wrong word
module _ (t w : List ℕ) (n : ℕ) (whole : n ≡ plan_count t) where
  pub wrong_word_lem : (p : ℕ) → Lowest (bad_word t w) n (Some p) → call_words_check t w ≡ Err (Word 0 p)
  wrong_word_lem p lowest = stop_at_last _ _ p (lowest_of t n whole _ _ lowest)

  pub right_words : Lowest (bad_word t w) n None → call_words_check t w ≡ Done
  right_words lowest = pass_at_last _ _ (lowest_of t n whole _ _ lowest)

-- a table that passes, its numbers of children and as many words
pub counted : (t counts w : List ℕ) → Tabled t counts → (n : ℕ) → n ≡ plan_count t → length w ≡ 4 * n → Counted t n counts w
counted t counts w tabled n whole long =
    let shape = rooted t tabled.done n whole in
    record {
      whole = whole;
      small = shape.small;
      room = shape.room;
      counts_room = omega (arith, whole, tabled.room);
      words_room = omega (arith, long);
      counted = λ q l. tabled.counted q (omega (arith, whole));
    }

-- a call's checks are that of its rule number, its table's, and then those of what is lent with it
module _ (rule : ℕ) (t s w c ranks counts names : List ℕ) where
  abbrev CalledSo : Outcome → Type 0
  CalledSo outcome = Called rule t s w c ranks counts names outcome

  pub call_unruled : (why : Refusal) → rule_check rule ≡ Err why → CalledSo (Err why)
  unfolding call_check
  call_unruled why e = record { is = sym (then_stops (rule_check rule) _ why e); facts = λ d. refused_not_done why d }

  module _ (ruled : rule_check rule ≡ Done) where
    pub call_refused : (why : Refusal) → table_check t ≡ Err why → CalledSo (Err why)
    unfolding call_check
    call_refused why e =
        record { is = sym (then_next (rule_check rule) _ ruled ∙ then_stops (table_check t) _ why e); facts = λ d. refused_not_done why d }

    pub call_lent : (r : Outcome) → table_check t ≡ Done → Facts t ranks counts names → r ≡ lent_check t s w c → CalledSo r
    unfolding call_check
    call_lent r d known e =
        record { is = e ∙ sym (then_next (rule_check rule) _ ruled ∙ then_next (table_check t) _ d); facts = λ x. known }

  -- where it passes the plans may move
  pub may_move :
      call_check rule t s w c ≡ Done → Facts t ranks counts names → plan_count t ≤ length ranks
      → plan_count t + plan_count t ≤ length names → MayMove t s w ranks names
  may_move d known ranks_room names_room =
      record {
        prepared = prepared t ranks counts names (table_passes rule t s w c d) known ranks_room names_room;
        passes = handed_in rule t s w c d;
        words = (lengths rule t s w c d).1;
      }
