-- Laws of one step of a record: where it lies, what the plans' moves read in it, and what is judged when it stops the search. Assumes
-- nothing.
use Prim.Native.Nat.{ℕ, zero, suc, ◌+◌, ◌*◌, ◌≤◌, ◌<◌}
use native.Mathlib.Omega.{arith}
use native.Mathlib.Numerals.{add-one}
use mathlib.Core.Path.{◌≡◌, refl, sym, ap, ◌∙◌}
use mathlib.Core.Logic.{◌⊎◌, inl, inr}
use mathlib.Core.List.{List, ◌∷◌}
use lib.ListN.{length, take, drop, replicate, length-drop, length-replicate}
use lib.Seq.{length-take-le, get_or-take}
use Rattle.rules.specs.Lists.{least}
use Rattle.rules.specs.Bytes.{byte_at}
use Rattle.rules.specs.States.{code}
use Rattle.rules.specs.Table.{plan_count}
use Rattle.rules.specs.Step.{step_under}
use Rattle.rules.specs.Record.{step_count, words_of, states_of, states_before, ExplainedFirst}
use Rattle.rules.specs.Answers.{bad_record_word, table_check, record_check, words_check, StepPasses, Judged, bad_words, unexplained, accepted, Done}
use Rattle.rules.specs.declared.Refusal.TheVariants.{Word, Unexplained}
use Rattle.rules.specs.declared.PlanState.TheVariants.{Inactive}
use Rattle.rules.proofs.Outcomes.{pass_at_last, stop_at_last}
use Rattle.rules.proofs.Tree.{passes, tree}
use Rattle.children.specs.Sets.{Surveyed}
use Rattle.lowest.specs.Lowest.{Lowest}
use Rattle.table.proofs.Reading.{found_is}
use Rattle.family.specs.StepFacts.{picks_of}
use Rattle.lent.specs.Calls.{MayMove}
use Rattle.demands.specs.Witness.{witness}
use Rattle.demands.proofs.Accepted.{table_done, before_passes}
use Rattle.demands.proofs.Numbers.{last_or}
use Rattle.demands.proofs.Witness.{witness_small}
use Rattle.demands.proofs.PlanByPlan.{explained_fewer, same_picks, explained_so_far}
use Rattle.demands.proofs.PlanByPlan.{unexplained as no_picks}
use Rattle.parts.specs.OneStep.{Lies, Witnessed}
use Rattle.record.specs.Sound.{Sound}
use Rattle.record.proofs.Form.{few, lies}
use Rattle.std.specs.Prelude.{Option, Ok, Err, Some, None}

-- the first k bytes of a buffer of zeros
pub idle_part : (k m a : ℕ) → k ≤ m → take k (replicate m a) ≡ replicate k a
idle_part zero m a l = refl
idle_part (suc k) zero a l = absurd (omega arith)
idle_part (suc k) (suc m) a l = ap (λ (z : List ℕ). a ∷ z) (idle_part k m a (omega arith))

-- before the first step: the states, and that its plans may be surveyed, whatever words they get
module _ {rule : ℕ} {t r ranks names : List ℕ} (sound : Sound rule t r ranks names) {n : ℕ} (whole : n ≡ plan_count t) where
  pub idle_few : n ≤ 256
  idle_few = omega (arith, (tree t (passes t (table_done rule t r sound.done))).small)

  idle_states : take n (replicate 256 (code Inactive)) ≡ states_before t r 0
  idle_states = idle_part n 256 (code Inactive) idle_few ∙ ap (λ (k : ℕ). replicate k (code Inactive)) whole

  pub idle_moves : MayMove t (take n (replicate 256 (code Inactive))) (replicate (4 * plan_count t) 0) ranks names
  idle_moves =
      record {
        prepared = sound.prepared;
        passes = rw idle_states (before_passes rule t r (table_done rule t r sound.done) 0 (λ j l. absurd (omega arith)));
        words = length-replicate (4 * plan_count t) 0;
      }

  pub idle_surveyed : (sets : List ℕ) → Surveyed t (take n (replicate 256 (code Inactive))) n sets → Surveyed t (states_before t r 0) n sets
  idle_surveyed sets surveyed = rw idle_states at surveyed

-- a part of a list that has it is as long as it says
part_long : (r : List ℕ) (from long : ℕ) → from + long ≤ length r → length (take long (drop from r)) ≡ long
part_long r from long l = length-take-le long (drop from r) (omega (arith, length-drop from r))

-- The search stands at step i, and the steps before it pass.
pub record Here (rule : ℕ) (t r ranks names : List ℕ) (n steps i : ℕ) : Type 0 where
  pub sound : Sound rule t r ranks names
  pub whole : n ≡ plan_count t
  pub count : steps ≡ step_count t r
  pub inside : i < steps
  pub before : (j : ℕ) → j < i → StepPasses rule t r j

module _ {rule : ℕ} {t r ranks names : List ℕ} {n steps i : ℕ} (here : Here rule t r ranks names n steps i) where
  abbrev good : record_check rule t r ≡ Done
  good = here.sound.done

  done : table_check t ≡ Done
  done = table_done rule t r good

  inner : i < step_count t r
  inner = rw here.count at here.inside

  -- where it lies
  pub there : Lies r n i
  there = lies rule t r good n steps i here.whole here.count here.inside

  pub few_plans : n ≤ 256
  few_plans = omega (arith, here.whole, (tree t (passes t done)).small)

  pub step_fits : i + 1 < 65536
  step_fits = omega (arith, few rule t r good, inner)

  pub words_long : (words : List ℕ) → words ≡ words_of t r i → length words ≡ 4 * n
  words_long words e = rw (e, ← here.whole) (part_long r (8 + i * (5 * n)) (4 * n) (omega (arith, there)))

  pub shown_long : (shown : List ℕ) → shown ≡ states_of t r i → length shown ≡ n
  shown_long shown e = rw (e, ← here.whole) (part_long r (8 + i * (5 * n) + 4 * n) n (omega (arith, there)))

  -- its plans may move
  pub may_move : (old words : List ℕ) → old ≡ states_before t r i → words ≡ words_of t r i → MayMove t old words ranks names
  may_move old words is_old is_words =
      record {
        prepared = here.sound.prepared;
        passes = rw is_old (before_passes rule t r done i here.before);
        words = rw (← here.whole) (words_long words is_words);
      }

  -- the words that are kept are those of the states before it
  pub before_surveyed :
      (old sets : List ℕ) → old ≡ states_before t r i → Surveyed t (states_before t r i) n sets → Surveyed t old n sets
  before_surveyed old sets is_old surveyed = rw is_old surveyed

  -- and, once they have moved to the states shown, from these
  pub shown_moves :
      (words shown : List ℕ) → words ≡ words_of t r i → shown ≡ states_of t r i → ((j : ℕ) → j < i + 1 → StepPasses rule t r j)
      → MayMove t shown words ranks names
  shown_moves words shown is_words is_shown before_next =
      record {
        prepared = here.sound.prepared;
        passes = rw is_shown (before_passes rule t r done (suc i) (λ j l. before_next j (omega arith)));
        words = rw (← here.whole) (words_long words is_words);
      }

  -- which are the states before the next step
  pub next_surveyed :
      (shown sets : List ℕ) → shown ≡ states_of t r i → Surveyed t shown n sets → Surveyed t (states_before t r (i + 1)) n sets
  next_surveyed shown sets is_shown surveyed = rw (add-one i) (rw is_shown at surveyed)

  -- check 12
  module _
      (words : List ℕ)
      (is_words : words ≡ words_of t r i)
      (wrong : Option ℕ)
      (lowest : Lowest (bad_record_word t words) n wrong)
    where
      first_word : least (bad_record_word t (words_of t r i)) (plan_count t) ≡ wrong
      first_word = found_is t n here.whole _ wrong (rw is_words at lowest)

      pub stops_at_word : (p : ℕ) → wrong ≡ Some p → Judged rule t r (Err (Word (i + 1) p))
      unfolding words_check
      stops_at_word p e = rw (add-one i) (bad_words i good inner here.before (stop_at_last _ _ p (first_word ∙ e)))

      pub words_pass : wrong ≡ None → words_check t r i ≡ Done
      unfolding words_check
      words_pass e = pass_at_last _ _ (first_word ∙ e)

  -- check 15: the witness, whose picks are ranks
  pub picks_small : (old shown picks : List ℕ) → Witnessed t old shown picks → (q : ℕ) → q < n → picks_of picks q < 64
  picks_small old shown picks witnessed q l =
      let inside : q < plan_count t = omega (arith, here.whole) in
      rw (witnessed.pick q inside) (witness_small t old shown done q inside)

  -- the new states under it beside the states shown
  module _
      (old words shown picks new : List ℕ)
      (is_old : old ≡ states_before t r i)
      (is_words : words ≡ words_of t r i)
      (is_shown : shown ≡ states_of t r i)
      (witnessed : Witnessed t old shown picks)
      (moved : take n new ≡ step_under rule t old words (picks_of picks))
    where
      byte_moved : (p : ℕ) → p < n → byte_at new p ≡ byte_at (step_under rule t old words (witness t old shown)) p
      byte_moved p l =
          sym (get_or-take n new p 0 l)
          ∙ ap (λ (x : List ℕ). byte_at x p)
          (moved ∙ same_picks rule t old words (tree t (passes t done)) (picks_of picks) (witness t old shown) witnessed.pick)

      -- the plans passed show the same bytes: some picks explain them
      pub explained : (p : ℕ) → p ≤ n → ((k : ℕ) → k < p → byte_at new k ≡ byte_at shown k) → ExplainedFirst rule t r i p
      explained p l same =
          rw (← is_old, ← is_words, ← is_shown)
          (explained_so_far rule t old words shown done p (omega (arith, here.whole)) (omega (arith, shown_long shown is_shown))
          (λ k lk. sym (byte_moved k (omega arith)) ∙ same k lk))

      -- plan p shows another byte
      pub stops_at_plan :
          (p : ℕ) → p < n → ((k : ℕ) → k < p → byte_at new k ≡ byte_at shown k) → (byte_at new p ≡ byte_at shown p → ⊥)
          → words_check t r i ≡ Done
          → Judged rule t r (Err (Unexplained (i + 1) p))
      stops_at_plan p l same differs words_done =
          rw (add-one i)
          (unexplained i p good inner here.before words_done (omega (arith, here.whole))
          (λ j lj. explained_fewer rule t _ _ _ (suc j) p lj (explained p (omega arith) same))
          (rw (← is_old, ← is_words, ← is_shown)
          (no_picks rule t old words shown done p (omega (arith, here.whole)) (λ e. differs (byte_moved p l ∙ e)))))

  -- all plans are explained: the step passes
  pub one_more : (p : ℕ) → p ≡ n → words_check t r i ≡ Done → ExplainedFirst rule t r i p → (j : ℕ) → j < i + 1 → StepPasses rule t r j
  one_more p end words_done explained j l = go (last_or j i (omega arith))
    where
      go : (j ≡ i) ⊎ (j < i) → StepPasses rule t r j
      go (inl e) = rw e (record { words = words_done; states = rw (end ∙ here.whole) at explained })
      go (inr h) = here.before j h

pub all_steps :
    (rule : ℕ) (t r : List ℕ) (steps i : ℕ) → record_check rule t r ≡ Done → steps ≡ step_count t r → steps ≤ i
    → ((j : ℕ) → j < i → StepPasses rule t r j) → Judged rule t r (Ok steps)
all_steps rule t r steps i done count end before = rw count (accepted done (λ j l. before j (omega arith)))
