-- Why document 02 (viii) has both premises: a tree that keeps all but the second moves for ever, and so does one that keeps all but the
-- first. Both are rows of Cases, in which a run goes round. Assumes nothing.
use Prim.Native.Nat.{ℕ, zero, suc, ◌+◌, ◌-◌, ◌<◌}
use native.Mathlib.Omega.{arith}
use native.Mathlib.Decide.{dec_lt}
use mathlib.Core.Bool.{Bool, true, false, not, ◌&&◌}
use mathlib.Core.Path.{◌≡◌, refl, sym, ap, ◌∙◌}
use mathlib.Core.Logic.{⊎_elim}
use mathlib.Core.List.{List, [], ◌∷◌, ◌++◌}
use lib.Dec.{T, eqb, eqb→eq}
use lib.ListN.{length, length-append}
use Rattle.rules.specs.Lists.{same, least_from, some_below}
use Rattle.rules.specs.Table.{plan_count}
use Rattle.rules.specs.Words.{holds}
use Rattle.rules.specs.Step.{step}
use Rattle.rules.specs.Rest.{after, settled, least_rest}
use Rattle.rules.specs.Answers.{is_done, is_rule, call_check, run_answer, Done}
use Rattle.rules.proofs.Outcomes.{is_done_lem}
use Rattle.rules.proofs.Same.{same_equal}
use Rattle.demands.specs.Bound.{nobody_retries, both_hold, nobody_holds_both, RestsWithin, MovesForEver}
use Rattle.demands.specs.Cases.{
  swing,
  pushed,
  retrying,
  aborting,
  path,
  rounds,
  holds_in,
  all_hold,
  circling,
  rows_hold,
  table,
}
use Rattle.demands.proofs.Tests.{left, right, either, is_true, is_false}
use Rattle.demands.proofs.PassedCall.{room_counts, lengths}
use Rattle.std.specs.Prelude.{Ok, Some, None}

-- A run that comes back to its states, and has changed some in each step until then, never rests.
module _
    (rule : ℕ) (t s w : List ℕ) (round : ℕ) (longer : 0 < round) (back : after rule t s w round ≡ s)
    (changes : (k : ℕ) → k < round → settled rule t s w k ≡ false) where
  once_more : (k : ℕ) → after rule t s w (round + k) ≡ after rule t s w k
  unfolding after
  once_more zero = let e : round + 0 ≡ round = omega arith in rw e back
  once_more (suc k) =
      let e : round + suc k ≡ suc (round + k) = omega arith in
      rw e (ap (λ (l : List ℕ). step rule t l w) (once_more k))

  never_settled : (fuel k : ℕ) → k < fuel → settled rule t s w k ≡ false
  never_settled zero k l = absurd (omega arith)
  never_settled (suc fuel) k l = go (dec_lt k round) (never_settled fuel (k - round))
    where
      go : Dec (k < round) → (k - round < fuel → settled rule t s w (k - round) ≡ false) → settled rule t s w k ≡ false
      go (yes h) ih = changes k h
      go (no h) ih =
          let e : k ≡ round + (k - round) = omega arith in
          let same_states = ap (after rule t s w) e ∙ once_more (k - round) in
          ap (λ (l : List ℕ). same (step rule t l w) l) same_states ∙ ih (omega arith)

  none_found : (p k : ℕ) → least_from (settled rule t s w) p k ≡ None
  unfolding least_from
  none_found p zero = refl
  none_found p (suc k) = rw (never_settled (suc p) p (omega arith), least_from) (none_found (p + 1) k)

  still_moving : (c : List ℕ) → call_check rule t s w c ≡ Done → (budget : ℕ) → run_answer rule t s w c budget ≡ Ok None
  unfolding run_answer least_rest
  still_moving c done budget = rw (run_answer, done, none_found 0 (suc budget)) refl

-- Along the states of a row each step changes some, and the last are reached.
module _ (rule : ℕ) (t w : List ℕ) where
  later : (s : List ℕ) (k : ℕ) → after rule t s w (suc k) ≡ after rule t (step rule t s w) w k
  unfolding after
  later s zero = refl
  later s (suc k) = ap (λ (l : List ℕ). step rule t l w) (later s k)

  module _ (s x : List ℕ) (xs : List (List ℕ)) (h : T (path rule t w s (x ∷ xs))) where
    abbrev there : Bool
    there = same (step rule t s w) x

    stepped : step rule t s w ≡ x
    stepped = same_equal (step rule t s w) x (is_true there (left there _ h))

    other : same x s ≡ false
    other = is_false (same x s) (left (not (same x s)) (path rule t w x xs) (right there _ h))

    onward : T (path rule t w x xs)
    onward = right (not (same x s)) (path rule t w x xs) (right there _ h)

  path_changes : (s : List ℕ) (xs : List (List ℕ)) → T (path rule t w s xs) → (k : ℕ) → k < length xs → settled rule t s w k ≡ false
  unfolding after
  path_changes s [] h k l = absurd (omega arith)
  path_changes s (x ∷ xs) h zero l = rw (stepped s x xs h) (other s x xs h)
  path_changes s (x ∷ xs) h (suc k) l =
      let moved = later s k ∙ ap (λ (y : List ℕ). after rule t y w k) (stepped s x xs h) in
      ap (λ (y : List ℕ). same (step rule t y w) y) moved ∙ path_changes x xs (onward s x xs h) k (omega arith)

  path_ends : (s : List ℕ) (xs : List (List ℕ)) (e : List ℕ) → T (path rule t w s (xs ++ (e ∷ []))) → after rule t s w (suc (length xs)) ≡ e
  unfolding after
  path_ends s [] e h = stepped s e [] h
  path_ends s (x ∷ xs) e h =
      later s (suc (length xs))
      ∙ ap (λ (y : List ℕ). after rule t y w (suc (length xs))) (stepped s x (xs ++ (e ∷ [])) h)
      ∙ path_ends x xs e (onward s x (xs ++ (e ∷ [])) h)

  pub round_moves :
      (s : List ℕ) (xs : List (List ℕ)) → T (rounds t w s xs rule) → (c : List ℕ) → length c ≡ plan_count t → (budget : ℕ)
      → run_answer rule t s w c budget ≡ Ok None
  round_moves s xs h c room =
      let done : Bool = is_done (call_check rule t s w s) in
      let passed = is_done_lem (call_check rule t s w s) (left done (path rule t w s (xs ++ (s ∷ []))) h) in
      let roomy = room ∙ sym (lengths rule t s w s passed).0 in
      let whole = right done (path rule t w s (xs ++ (s ∷ []))) h in
      still_moving rule t s w (suc (length xs)) (omega arith) (path_ends s xs s whole)
      (λ k l. path_changes s (xs ++ (s ∷ [])) whole k (omega (arith, length-append xs (s ∷ []))))
      c (room_counts rule t s w c s roomy ∙ passed)

-- A run that goes round by both rules moves for ever.
abbrev by_both : List ℕ → List ℕ → List ℕ → List (List ℕ) → Bool
by_both t w s xs = rounds t w s xs 1 && (rounds t w s xs 2 && true)

module _ (t w s : List ℕ) (xs : List (List ℕ)) (h : T (by_both t w s xs)) where
  by_each : (rule : ℕ) → T (is_rule rule) → T (rounds t w s xs rule)
  by_each rule known =
      let first : Bool = rounds t w s xs 1 in
      let second : Bool = rounds t w s xs 2 in
      ⊎_elim (λ e. rw (eqb→eq rule 1 e) (left first (second && true) h))
      (λ e. rw (eqb→eq rule 2 e) (left second true (right first (second && true) h)))
      (either (eqb rule 1) (eqb rule 2) known)

  for_ever : MovesForEver t w s
  for_ever = record { moves = λ rule c budget known room. round_moves rule t w s xs (by_each rule known) c room budget }

  -- so no figure at all could be promised under these words: a run by either rule would break it
  no_figure : (rule : ℕ) → T (is_rule rule) → (most : ℕ) → RestsWithin t w most → ⊥
  no_figure rule known most kept =
      let done = is_done_lem (call_check rule t s w s) (left (is_done (call_check rule t s w s)) _ (by_each rule known)) in
      let run = kept.rests rule s s most done (omega arith) in
      let both : Ok (Some run.steps) ≡ Ok None =
      sym run.answer ∙ for_ever.moves rule s most known (lengths rule t s w s done).0 in
      let z : ◌≡◌ {A = ℕ} 0 1 = cc in
      absurd (omega arith)

-- What the two rows tell.
abbrev down : List (List ℕ)
down = (5 ∷ []) ∷ []

abbrev through : List (List ℕ)
through = (4 ∷ 2 ∷ []) ∷ (4 ∷ 3 ∷ []) ∷ (4 ∷ 4 ∷ []) ∷ (4 ∷ 7 ∷ []) ∷ []

both_go_round : T (by_both swing pushed (4 ∷ []) down) × T (by_both retrying aborting (4 ∷ 1 ∷ []) through)
unfolding all_hold holds_in table circling
both_go_round =
    let told : T (all_hold table) = rw rows_hold tt in
    let swings : Bool = by_both swing pushed (4 ∷ []) down in
    (left swings _ told, left (by_both retrying aborting (4 ∷ 1 ∷ []) through) _ (right swings _ told))

-- one plan that keeps the first premise, and not the second: it is Activated and Suspended in turn
pub record Swings : Type 0 where
  pub keeps : nobody_retries swing ≡ true
  pub breaks : nobody_holds_both swing pushed ≡ false
  pub turns : (rule : ℕ) → T (is_rule rule) → (step rule swing (4 ∷ []) pushed ≡ 5 ∷ []) × (step rule swing (5 ∷ []) pushed ≡ 4 ∷ [])
  pub moves : MovesForEver swing pushed (4 ∷ [])
  pub unbounded : (rule : ℕ) → T (is_rule rule) → (most : ℕ) → RestsWithin swing pushed most → ⊥

pub swings_for_ever : Swings
unfolding some_below holds nobody_retries both_hold nobody_holds_both
swings_for_ever =
    record {
      keeps = refl;
      breaks = refl;
      turns =
          λ rule known.
          let up_again : List (List ℕ) = (4 ∷ []) ∷ [] in
          let done : Bool = is_done (call_check rule swing (4 ∷ []) pushed (4 ∷ [])) in
          let whole = right done _ (by_each swing pushed (4 ∷ []) down both_go_round.0 rule known) in
          let falls = stepped rule swing pushed (4 ∷ []) (5 ∷ []) up_again whole in
          let rises = stepped rule swing pushed (5 ∷ []) (4 ∷ []) [] (onward rule swing pushed (4 ∷ []) (5 ∷ []) up_again whole) in
          (falls, rises);
      moves = for_ever swing pushed (4 ∷ []) down both_go_round.0;
      unbounded = no_figure swing pushed (4 ∷ []) down both_go_round.0;
    }

-- a plan and its child that keep the second premise, and not the first: the child is retried again and again
pub record Retries : Type 0 where
  pub breaks : nobody_retries retrying ≡ false
  pub keeps : nobody_holds_both retrying aborting ≡ true
  pub moves : MovesForEver retrying aborting (4 ∷ 1 ∷ [])
  pub unbounded : (rule : ℕ) → T (is_rule rule) → (most : ℕ) → RestsWithin retrying aborting most → ⊥

pub retries_for_ever : Retries
unfolding some_below holds nobody_retries both_hold nobody_holds_both
retries_for_ever =
    record {
      breaks = refl;
      keeps = refl;
      moves = for_ever retrying aborting (4 ∷ 1 ∷ []) through both_go_round.1;
      unbounded = no_figure retrying aborting (4 ∷ 1 ∷ []) through both_go_round.1;
    }
