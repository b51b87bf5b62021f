-- Laws of outcomes: what a chain of checks that ends in Done tells of each, and how a chain is gone through. Assumes nothing.
use Prim.Native.Nat.{ℕ}
use native.Mathlib.Omega.{arith}
use mathlib.Core.Path.{◌≡◌, refl, sym, ap, ◌∙◌}
use mathlib.Core.Bool.{Bool, true, false, not}
use lib.Dec.{T}
use Rattle.rules.specs.Answers.{◌and_then◌, is_done, refuse_if, refuse_at, is_rule, rule_check, Outcome, Done}
use Rattle.rules.specs.declared.Refusal.{Refusal}
use Rattle.rules.specs.declared.Refusal.TheVariants.{RuleNumber}
use Rattle.std.specs.Prelude.{Option, Ok, Err, Some, None}

pub refused_not_done : {A : Type 0} (why : Refusal) → Err why ≡ Done → A
refused_not_done why e = let z : ◌≡◌ {A = ℕ} 0 1 = cc in absurd (omega arith)

-- a test of an outcome
pub is_done_lem : (o : Outcome) → T (is_done o) → o ≡ Done
is_done_lem (Ok tt) h = refl
is_done_lem (Err why) h = absurd h

pub first_done : (a b : Outcome) → (a and_then b) ≡ Done → a ≡ Done
unfolding ◌and_then◌
first_done (Ok tt) b e = refl
first_done (Err why) b e = e

pub then_done : (a b : Outcome) → (a and_then b) ≡ Done → b ≡ Done
unfolding ◌and_then◌
then_done (Ok tt) b e = e
then_done (Err why) b e = refused_not_done why e

pub if_done : (b : Bool) (why : Refusal) → refuse_if b why ≡ Done → b ≡ false
unfolding refuse_if
if_done true why e = refused_not_done why e
if_done false why e = refl

pub at_done : (why : ℕ → Refusal) (f : Option ℕ) → refuse_at why f ≡ Done → f ≡ None
unfolding refuse_at
at_done why None e = refl
at_done why (Some p) e = refused_not_done (why p) e

-- a chain of checks goes on past a test that fails, and stops at one that holds
module _ (b : Bool) (why : Refusal) (next : Outcome) where
  pub pass : b ≡ false → (refuse_if b why and_then next) ≡ next
  unfolding ◌and_then◌ refuse_if
  pass e = rw e

  pub stop : b ≡ true → (refuse_if b why and_then next) ≡ Err why
  unfolding ◌and_then◌ refuse_if
  stop e = rw e

pub pass_last : (b : Bool) (why : Refusal) → b ≡ false → refuse_if b why ≡ Done
unfolding refuse_if
pass_last b why e = rw e

pub stop_last : (b : Bool) (why : Refusal) → b ≡ true → refuse_if b why ≡ Err why
unfolding refuse_if
stop_last b why e = rw e

module _ (why : ℕ → Refusal) (found : Option ℕ) (next : Outcome) where
  pub pass_at : found ≡ None → (refuse_at why found and_then next) ≡ next
  unfolding ◌and_then◌ refuse_at
  pass_at e = rw e

  pub stop_at : (p : ℕ) → found ≡ Some p → (refuse_at why found and_then next) ≡ Err (why p)
  unfolding ◌and_then◌ refuse_at
  stop_at p e = rw e

pub pass_at_last : (why : ℕ → Refusal) (found : Option ℕ) → found ≡ None → refuse_at why found ≡ Done
unfolding refuse_at
pass_at_last why found e = rw e

pub stop_at_last : (why : ℕ → Refusal) (found : Option ℕ) (p : ℕ) → found ≡ Some p → refuse_at why found ≡ Err (why p)
unfolding refuse_at
stop_at_last why found p e = rw e

pub then_next : (a next : Outcome) → a ≡ Done → (a and_then next) ≡ next
unfolding ◌and_then◌
then_next a next e = rw e

pub then_stops : (a next : Outcome) (why : Refusal) → a ≡ Err why → (a and_then next) ≡ Err why
unfolding ◌and_then◌
then_stops a next why e = rw e

-- check 17, from what the code has in hand
module _ (rule : ℕ) {known : Bool} (e : known ≡ is_rule rule) where
  pub rule_stops : not known ≡ true → rule_check rule ≡ Err RuleNumber
  unfolding rule_check
  rule_stops h = stop_last (not (is_rule rule)) RuleNumber (ap not (sym e) ∙ h)

  pub rule_passes : not known ≡ false → rule_check rule ≡ Done
  unfolding rule_check
  rule_passes h = pass_last (not (is_rule rule)) RuleNumber (ap not (sym e) ∙ h)
