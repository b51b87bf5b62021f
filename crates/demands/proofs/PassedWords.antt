-- Words that pass check 12, in a call and in a record, do not say of if-then-else that it is satisfied and no longer can be. Assumes
-- nothing.
use Prim.Native.Nat.{ℕ, ◌<◌}
use mathlib.Core.Bool.{Bool, true, false, not, ◌&&◌, ◌||◌, true≢false}
use mathlib.Core.Path.{◌≡◌}
use mathlib.Core.List.{List}
use lib.Dec.{T, eqb}
use lib.ListN.{length}
use Rattle.rules.specs.Table.{plan_count, entry, body_of, children}
use Rattle.rules.specs.Words.{word, pick_of, pick_allowed, other_bits, satisfied_only, if_satisfied, if_satisfiable}
use Rattle.rules.specs.Record.{words_of}
use Rattle.rules.specs.Answers.{wrong_word_if, wrong_word, bad_word, bad_record_word, words_check, Done}
use Rattle.rules.specs.declared.Body.{Body}
use Rattle.rules.specs.declared.Condition.TheVariants.{Filter, Setup}
use Rattle.rules.proofs.Least.{nowhere}
use Rattle.rules.proofs.Outcomes.{at_done}
use Rattle.rules.proofs.Tree.{or_right}
use Rattle.demands.specs.BranchesAgree.{BranchesAgree}

not_alone : (a b : Bool) → (a && not b) ≡ false → T a → T b
not_alone true true e h = tt
not_alone true false e h = absurd (true≢false e)
not_alone false b e h = absurd h

right_word : (body : Body) (allowed : Bool) (x : ℕ) → wrong_word_if body allowed x ≡ false → T (if_satisfied x) → T (if_satisfiable x)
right_word body allowed x e =
    not_alone (if_satisfied x) (if_satisfiable x)
    (or_right (satisfied_only Filter x || satisfied_only Setup x) _ (or_right (other_bits body x || not allowed) _ e))

pub call_words : (t w : List ℕ) → ((p : ℕ) → p < plan_count t → bad_word t w p ≡ false) → BranchesAgree t w
unfolding bad_word wrong_word
call_words t w right q l =
    let body = body_of (entry t q) in
    right_word body (pick_allowed body (length (children t q)) (pick_of (word w q))) (word w q) (right q l)

pub record_words : (t r : List ℕ) (i : ℕ) → words_check t r i ≡ Done → BranchesAgree t (words_of t r i)
unfolding words_check bad_record_word
record_words t r i done q l =
    let w = words_of t r i in
    right_word (body_of (entry t q)) (eqb (pick_of (word w q)) 0) (word w q)
    (nowhere (bad_record_word t w) (plan_count t) (at_done _ _ done) q l)
