-- Laws of reading a table: where the checks stop, and what is known once they are through. Assumes nothing.
use Prim.Native.Nat.{ℕ, ◌+◌, ◌*◌, ◌≤◌, ◌<◌}
use native.Mathlib.Omega.{arith}
use mathlib.Core.Path.{◌≡◌, sym, ap, ◌∙◌}
use mathlib.Core.Bool.{Bool, true, false, cond, not}
use mathlib.Core.List.{List}
use lib.Dec.{eqb}
use lib.ListN.{length, get_or}
use Rattle.rules.specs.Lists.{least, some_below}
use Rattle.rules.specs.Bytes.{byte_at}
use Rattle.rules.specs.Table.{plan_count, entry, named, children_before, children}
use Rattle.rules.specs.WaitFor.{first_version, node_count, table_size}
use Rattle.rules.specs.Answers.{◌and_then◌, refuse_at, bad_parent, undefined_byte, unfit, too_many, formulas_check, asks_too_many, bad_wait, header_check, plans_check, table_check, Done}
use Rattle.rules.specs.declared.Refusal.{Refusal}
use Rattle.rules.specs.declared.Refusal.TheVariants.{TableLength, Parent, Undefined, Unfit, Wait}
use Rattle.rules.proofs.Outcomes.{
  refused_not_done,
  pass,
  stop,
  pass_at,
  stop_at,
  pass_at_last,
  stop_at_last,
  first_done,
  then_done,
  then_next,
  then_stops,
}
use Rattle.rules.proofs.Tree.{header}
use Rattle.children.specs.Sets.{set_before, set_of, Collected}
use Rattle.lowest.specs.Lowest.{Lowest}
use Rattle.formulas.specs.Asked.{Numbered}
use Rattle.table.specs.Facts.{Shaped, waits_check, Known, FactsRoom, Facts, Checked, Prepared}
use Rattle.lowest.proofs.Lowest.{lowest_is}
use Rattle.std.specs.Prelude.{Option, Err, Some, None}

-- a search over n plans is one over the table's plans
pub found_is :
    (t : List ℕ) (n : ℕ) → n ≡ plan_count t → (f : ℕ → Bool) (r : Option ℕ) → Lowest f n r → least f (plan_count t) ≡ r
found_is t n whole f r lowest = rw (← whole) (lowest_is f n r lowest)

-- a header that is refused is the table's refusal
pub header_refused : (t : List ℕ) (why : Refusal) → header_check t ≡ Err why → table_check t ≡ Err why
unfolding table_check
header_refused t why e = then_stops (header_check t) _ why e

module _ (t : List ℕ) (good : header_check t ≡ Done) where
  pub stops_at_length : eqb (length t) (table_size t) ≡ false → table_check t ≡ Err TableLength
  unfolding table_check
  stops_at_length other = then_next (header_check t) _ good ∙ stop _ _ _ (ap not other)

  module _ (long : eqb (length t) (table_size t) ≡ true) where
    pub stops_at_parent : (p : ℕ) → least (bad_parent t) (plan_count t) ≡ Some p → table_check t ≡ Err (Parent p)
    unfolding table_check
    stops_at_parent p e =
        then_next (header_check t) _ good ∙ pass _ _ _ (ap not long) ∙ stop_at _ _ _ p e

    pub going_on : least (bad_parent t) (plan_count t) ≡ None → table_check t ≡ plans_check t
    unfolding table_check
    going_on e = then_next (header_check t) _ good ∙ pass _ _ _ (ap not long) ∙ pass_at _ _ _ e

-- checks 7, 8, 22 and 9
module _ (t : List ℕ) where
  pub plans_undefined : (p : ℕ) → least (undefined_byte t) (plan_count t) ≡ Some p → plans_check t ≡ Err (Undefined p)
  unfolding plans_check
  plans_undefined p e = stop_at _ _ _ p e

  module _ (defined : least (undefined_byte t) (plan_count t) ≡ None) where
    pub plans_unfit : (p : ℕ) → least (unfit t) (plan_count t) ≡ Some p → plans_check t ≡ Err (Unfit p)
    unfolding plans_check
    plans_unfit p e = pass_at _ _ _ defined ∙ stop_at _ _ _ p e

    pub plans_waits : least (unfit t) (plan_count t) ≡ None → plans_check t ≡ waits_check t
    unfolding plans_check
    plans_waits fit = pass_at _ _ _ defined ∙ pass_at _ _ _ fit

  -- 22 and 9 by the version
  pub waits_second : first_version t ≡ false → waits_check t ≡ (formulas_check t and_then refuse_at Wait (least (bad_wait t) (plan_count t)))
  waits_second second = ap (λ (b : Bool). cond b Done (formulas_check t) and_then refuse_at Wait (least (bad_wait t) (plan_count t))) second

  module _ (first : first_version t ≡ true) where
    waits_first : waits_check t ≡ refuse_at Wait (least (bad_wait t) (plan_count t))
    unfolding ◌and_then◌
    waits_first = ap (λ (b : Bool). cond b Done (formulas_check t) and_then refuse_at Wait (least (bad_wait t) (plan_count t))) first

    pub waits_by_number : (p : ℕ) → too_many t p (entry t p).wait ≡ bad_wait t p
    unfolding bad_wait
    waits_by_number p = sym (ap (λ (b : Bool). cond b (too_many t p (entry t p).wait) (some_below (asks_too_many t p) (node_count t))) first)

    pub waits_wait : (p : ℕ) → least (bad_wait t) (plan_count t) ≡ Some p → waits_check t ≡ Err (Wait p)
    waits_wait p e = waits_first ∙ stop_at_last _ _ p e

    pub waits_done : least (bad_wait t) (plan_count t) ≡ None → waits_check t ≡ Done
    waits_done e = waits_first ∙ pass_at_last _ _ e

  -- of plans that pass, check 22 passes
  pub formulas_done : plans_check t ≡ Done → first_version t ≡ false → formulas_check t ≡ Done
  unfolding plans_check
  formulas_done done second =
      let r₂₂ = then_done _ _ (then_done _ _ done) in
      sym (ap (λ (b : Bool). cond b Done (formulas_check t)) second) ∙ first_done _ _ r₂₂

-- a refusal brings no facts
pub refused_checked :
    (t ranks counts names : List ℕ) (why : Refusal) → table_check t ≡ Err why → Checked t ranks counts names (Err why)
refused_checked t ranks counts names why e = record { is = sym e; facts = λ d. refused_not_done why d }

-- what check 6 and the collecting of names leave
module _
    (t : List ℕ)
    (n : ℕ)
    (whole : n ≡ plan_count t)
    (ranks counts names : List ℕ)
    (r : Option ℕ)
    (shaped : Shaped t n ranks counts r)
    (none : r ≡ None)
    (collected : Collected t n (λ c. named (entry t c)) names)
  where
    count_is : (q : ℕ) → q < n → byte_at counts q ≡ length (children t q)
    unfolding children
    count_is q l = (shaped.ranked none).counted q l ∙ ap (λ (k : ℕ). length (children_before t q k)) whole

    names_are : (q : ℕ) → q < n → get_or names q 0 ≡ set_of t q (λ c. named (entry t c))
    unfolding set_of
    names_are q l = collected.word q l ∙ ap (λ (k : ℕ). set_before t k q (λ c. named (entry t c))) whole

    pub known : length t ≡ table_size t → n ≤ length counts → n ≤ length names → Known t n counts names
    known long hc hn =
        record {
          whole = whole;
          small = (shaped.rooted none).small;
          some = (shaped.narrow none).some;
          long = long;
          counts_room = hc;
          names_room = hn;
          counted = count_is;
          collected = names_are;
        }

    pub facts : (numbered : List ℕ) → Numbered t n n names numbered → Facts t ranks counts numbered
    facts numbered asked =
        record {
          some = omega (arith, (shaped.narrow none).some);
          small = omega (arith, (shaped.rooted none).small);
          long = rw (← whole) (shaped.rooted none).room;
          down = λ p h l. (shaped.rooted none).down p h (omega arith);
          narrow = λ p l. (shaped.narrow none).narrow p (omega arith);
          ranked = λ p l. (shaped.narrow none).ranked p (omega arith);
          counted = λ q l. count_is q (omega arith);
          collected = λ q l. asked.before q (omega arith) ∙ names_are q (omega arith);
          numbers = λ q l. ap (λ (k : ℕ). get_or numbered (k + q) 0) (sym whole) ∙ asked.numbers q (omega arith);
        }

-- a table that passes, and its facts, for those above
pub prepared :
    (t ranks counts names : List ℕ) → table_check t ≡ Done → Facts t ranks counts names → plan_count t ≤ length ranks
    → plan_count t + plan_count t ≤ length names → Prepared t ranks names
prepared t ranks counts names done facts ranks_room names_room =
    record {
      done = done;
      ranks_room = ranks_room;
      names_room = names_room;
      ranked = facts.ranked;
      collected = facts.collected;
      numbers = facts.numbers;
    }

-- where a table of n plans ends, by its version
module _ (t : List ℕ) (n : ℕ) (whole : n ≡ plan_count t) where
  pub first_end : first_version t ≡ true → 8 + 8 * n ≡ table_size t
  first_end first =
      let is = ap (λ (b : Bool). 8 + 8 * plan_count t + cond b 0 (2 + 4 * node_count t)) first in
      omega (arith, is)

  pub second_end : first_version t ≡ false → 8 + 8 * n + 2 + 4 * node_count t ≡ table_size t
  second_end second =
      let is = ap (λ (b : Bool). 8 + 8 * plan_count t + cond b 0 (2 + 4 * node_count t)) second in
      omega (arith, is)

-- buffers with room for k plans have room for a table that has no more; 256 are enough for every table
module _ (t : List ℕ) (k : ℕ) (few : header_check t ≡ Done → plan_count t ≤ k) where
  pub room_for : (ranks counts names : List ℕ) → k ≤ length ranks → k ≤ length counts → k * 2 ≤ length names → FactsRoom t ranks counts names
  room_for ranks counts names hr hc hn =
      record {
        ranks_room = λ good. omega (arith, few good);
        counts_room = λ good. omega (arith, few good);
        names_room = λ good. omega (arith, few good);
      }

pub room_for_all :
    (t ranks counts names : List ℕ) → 256 ≤ length ranks → 256 ≤ length counts → 512 ≤ length names → FactsRoom t ranks counts names
room_for_all t = room_for t 256 (λ good. (header t good).small)
