-- One answer: any two that the contract of a public function permits are equal, the contract being as Rattle reads it: of a part of the
-- record its bytes, of `find_picks` the picks of the table's plans, of `find_unused` all that it is lent. Assumes nothing.
use Prim.Native.Nat.{ℕ, ◌<◌}
use native.Mathlib.Omega.{arith}
use mathlib.Core.Path.{◌≡◌}
use mathlib.Core.List.{List, [], ◌∷◌}
use contract.Lifetimes.{Lfts}
use Rattle.rules.specs.Bytes.{byte_at}
use Rattle.rules.specs.Table.{plan_count}
use Rattle.rules.specs.Answers.{bad_record_word}
use Rattle.rules.proofs.Unique.{one_answer, OneAnswer}
use Rattle.children.proofs.Unique.{written_once}
use Rattle.lowest.proofs.Lowest.{lowest_once}
use Rattle.parts.proofs.words_of.Reads as words_of
use Rattle.parts.proofs.states_of.Reads as states_of
use Rattle.parts.proofs.states_before.Reads as states_before
use Rattle.parts.proofs.lowest_wrong_word.Reads as lowest_wrong_word
use Rattle.parts.proofs.find_unused.Reads as find_unused
use Rattle.parts.proofs.find_picks.Reads as find_picks

-- the contracts of the parts speak of every table of n plans: there is one
of_plans : ℕ → List ℕ
of_plans n = 0 ∷ 0 ∷ 0 ∷ 0 ∷ 0 ∷ n ∷ 0 ∷ []

has_plans : (n : ℕ) → n ≡ plan_count (of_plans n)
unfolding of_plans
has_plans n = omega arith

pub words_of_once :
    (κs : Lfts 1) (a : _) (z z' : _) (e e' : _) → words_of.Post κs a z e → words_of.Post κs a z' e' → z.now ≡ z'.now
words_of_once κs a z z' e e' h h' =
    one_answer (h (of_plans a.1.0) (has_plans a.1.0)) (h' (of_plans a.1.0) (has_plans a.1.0))

pub states_of_once :
    (κs : Lfts 1) (a : _) (z z' : _) (e e' : _) → states_of.Post κs a z e → states_of.Post κs a z' e' → z.now ≡ z'.now
states_of_once κs a z z' e e' h h' =
    one_answer (h (of_plans a.1.0) (has_plans a.1.0)) (h' (of_plans a.1.0) (has_plans a.1.0))

pub states_before_once :
    (κs : Lfts 1) (a : _) (z z' : _) (e e' : _) → states_before.Post κs a z e → states_before.Post κs a z' e' → z.now ≡ z'.now
states_before_once κs a z z' e e' h h' =
    let n : ℕ = a.1.1.0 in
    one_answer (h (of_plans n) (has_plans n)) (h' (of_plans n) (has_plans n))

pub lowest_wrong_word_once : OneAnswer lowest_wrong_word.Post
lowest_wrong_word_once = record { once = λ κs a z z' e e' h h'. lowest_once (bad_record_word a.0.now a.1.1.0.now) a.1.1.1.0 z z' h h' }

pub find_picks_once :
    (κs : Lfts 6) (a : _) (z z' : _) (e e' : _) → find_picks.Post κs a z e → find_picks.Post κs a z' e'
    → (q : ℕ) → q < plan_count a.0.now
    → byte_at e.1.1.1.1.1.0.now q ≡ byte_at e'.1.1.1.1.1.0.now q
find_picks_once κs a z z' e e' h h' q l = one_answer (h.pick q l) (h'.pick q l)

pub find_unused_once :
    (κs : Lfts 2) (a : _) (z z' : _) (e e' : _) → find_unused.Post κs a z e → find_unused.Post κs a z' e'
    → e.1.1.0.now ≡ e'.1.1.0.now
find_unused_once κs a z z' e e' h h' =
    written_once a.1.0 _ _ _ h.1 h'.1 (λ p l. one_answer (h.0.bits p l) (h'.0.bits p l))
