-- `check_steps` meets its contract: the first step that fails, and in it the lowest plan that no picks explain. Assumes nothing.
use Rattle.std.specs.Prelude.{Option, Some, None}
use Rattle.std.proofs.Common.{◌≡◌, List, ℕ, ◌+◌, ◌<◌, take, refl, sym, ap, ◌∙◌, arith}
use borrow.Author.Count.{below_more}
use lib.ListN.{replicate, get_or-replicate}
use lib.Seq.{length-take-le}
use Rattle.rules.specs.Bytes.{byte_at}
use Rattle.rules.specs.Table.{plan_count}
use Rattle.rules.specs.Step.{step_under}
use Rattle.rules.specs.Record.{step_count, words_of, states_of, states_before}
use Rattle.rules.specs.Answers.{bad_record_word, StepPasses}
use Rattle.rules.proofs.Tree.{passes}
use Rattle.lowest.specs.Lowest.{Lowest}
use Rattle.family.specs.StepFacts.{picks_of}
use Rattle.lent.proofs.Calls.{rooted}
use Rattle.parts.specs.OneStep.{Witnessed}
use Rattle.pass.proofs.StepFacts.{known_names, narrow, codes, may_survey, step_facts}
use Rattle.record.specs.Sound.{Sound}
use Rattle.record.proofs.Form.{few}
use Rattle.record.proofs.Steps.{idle_part, idle_few, idle_moves, idle_surveyed, Here, there, shown_long, few_plans, step_fits, may_move, before_surveyed, shown_moves, next_surveyed, stops_at_word, words_pass, picks_small, explained, stops_at_plan, one_more, all_steps}
use Rattle.record.proofs.check_steps.Goals as goal
use Rattle.record.proofs.check_steps.Goals.{else-search-test, then-search-test+in_default+then-loop-p-test+then-new-p}

-- where the search stands
here_at :
    {rule : ℕ} {t r ranks names : List ℕ} (n steps i : ℕ) → Sound rule t r ranks names
    → (n ≡ plan_count t) × (steps ≡ step_count t r) → i < steps → ((j : ℕ) → j < i → StepPasses rule t r j)
    → Here rule t r ranks names n steps i
here_at n steps i sound sizes inside pass =
    record { sound = sound; whole = sizes.0; count = sizes.1; inside = inside; before = pass }

-- a step in which no word is wrong and every plan is as shown passes
passed :
    {rule : ℕ} {t r ranks names : List ℕ} {n steps i : ℕ} → Here rule t r ranks names n steps i
    → (old words shown picks new : List ℕ) (wrong : Option ℕ)
    → old ≡ states_before t r i → words ≡ words_of t r i → shown ≡ states_of t r i
    → Lowest (bad_record_word t words) n wrong → wrong ≡ None → Witnessed t old shown picks
    → take n new ≡ step_under rule t old words (picks_of picks)
    → ((k : ℕ) → k < n → byte_at new k ≡ byte_at shown k)
    → (j : ℕ) → j < i + 1 → StepPasses rule t r j
passed at old words shown picks new wrong is_old is_words is_shown lowest none witnessed moved same =
    one_more at _ refl (words_pass at _ is_words _ lowest none)
    (explained at _ _ _ _ _ is_old is_words is_shown witnessed moved _ (omega arith) same)

-- the place at which the search was left: there is one, and one only
no_place : {R : Type 0} {place : ℕ × ℕ} → Some place ≡ None → R
no_place e = let z : ◌≡◌ {A = ℕ} 0 1 = cc in absurd (omega arith)

same_place : {a b c d : ℕ} → ◌≡◌ {A = Option (ℕ × ℕ)} (Some (a, b)) (Some (c, d)) → (a ≡ c) × (b ≡ d)
same_place {a} {b} {c} {d} e =
    let both : ◌≡◌ {A = ℕ × ℕ} (a, b) (c, d) = cc in
    (ap (λ (place : ℕ × ℕ). place.0) both, ap (λ (place : ℕ × ℕ). place.1) both)

pub slice_bounds-idle-end : goal.slice_bounds-idle-end
slice_bounds-idle-end c = idle_few c.requires.sound c.requires.sizes.0

pub slice_bounds-survey-end : goal.slice_bounds-survey-end
slice_bounds-survey-end c = sym (length-take-le _ (replicate 256 0) (idle_few c.requires.sound c.requires.sizes.0))

pub survey-requires-clause-rooted : goal.survey-requires-clause-rooted
survey-requires-clause-rooted c = rooted _ c.requires.sound.prepared.done _ c.requires.sizes.0

pub survey-requires-clause-narrow : goal.survey-requires-clause-narrow
survey-requires-clause-narrow c =
    narrow _ _ _ _ _ (idle_moves c.requires.sound c.requires.sizes.0) _ c.requires.sizes.0

pub survey-requires-clause-codes : goal.survey-requires-clause-codes
survey-requires-clause-codes c =
    codes _ _ _ _ _ (idle_moves c.requires.sound c.requires.sizes.0) _ c.requires.sizes.0

pub survey-requires-clause-room : goal.survey-requires-clause-room
survey-requires-clause-room c =
    let most = idle_few c.requires.sound c.requires.sizes.0 in
    (may_survey _ _ _ _ _ (idle_moves c.requires.sound c.requires.sizes.0) _ c.requires.sizes.0 (replicate 2304 0) (omega arith)
    (λ i l. get_or-replicate {A = ℕ} 2304 i 0 0 (omega arith))).1.1.1.0

pub survey-requires-clause-empty : goal.survey-requires-clause-empty
survey-requires-clause-empty c =
    let most = idle_few c.requires.sound c.requires.sizes.0 in
    λ i l. get_or-replicate {A = ℕ} 2304 i 0 0 (omega arith)

pub find_unused-requires : goal.find_unused-requires
find_unused-requires c =
    let most = idle_few c.requires.sound c.requires.sizes.0 in
    (most, omega (arith, (passes _ c.requires.sound.prepared.done).long, c.requires.sizes.0), most)

pub search-init : goal.search-init
search-init c =
    record {
      none = refl;
      sets_long = c.survey.ensures.rest.long;
      picks_long = refl;
      kept_long = refl;
      new_long = refl;
      pass = λ j l. absurd (omega arith);
      surveyed = idle_surveyed c.requires.sound c.requires.sizes.0 _ c.survey.ensures.found;
    }

pub words_of-words-requires : goal.words_of-words-requires
words_of-words-requires c =
    there (here_at _ _ _ c.requires.sound c.requires.sizes c.search-test.true c.search.invariant.pass)

pub states_before-old-requires : goal.states_before-old-requires
states_before-old-requires c =
    let at = here_at _ _ _ c.requires.sound c.requires.sizes c.search-test.true c.search.invariant.pass in
    (few_plans at, idle_part _ 256 0 (few_plans at), omega (arith, there at))

pub states_of-shown-requires : goal.states_of-shown-requires
states_of-shown-requires c =
    there (here_at _ _ _ c.requires.sound c.requires.sizes c.search-test.true c.search.invariant.pass)

pub find_picks-requires-clause-table : goal.find_picks-requires-clause-table
find_picks-requires-clause-table c =
    let whole = c.requires.sizes.0 in
    let at = here_at _ _ _ c.requires.sound c.requires.sizes c.search-test.true c.search.invariant.pass in
    let own = may_move at _ _ (c.states_before-old.ensures c.args.table.now whole) (c.words_of-words.ensures c.args.table.now whole) in
    record {
      whole = whole;
      rooted = rooted _ own.prepared.done _ whole;
      narrow = narrow _ _ _ _ _ own _ whole;
      ranks_room = omega (arith, whole, own.prepared.ranks_room);
    }

pub find_picks-requires-clause-shown : goal.find_picks-requires-clause-shown
find_picks-requires-clause-shown c =
    let whole = c.requires.sizes.0 in
    let at = here_at _ _ _ c.requires.sound c.requires.sizes c.search-test.true c.search.invariant.pass in
    let own = may_move at _ _ (c.states_before-old.ensures c.args.table.now whole) (c.words_of-words.ensures c.args.table.now whole) in
    (omega (arith, whole, own.passes.long), omega (arith, shown_long at _ (c.states_of-shown.ensures c.args.table.now whole)))

pub advance-requires-clause-facts : goal.advance-requires-clause-facts
advance-requires-clause-facts c =
    let whole = c.requires.sizes.0 in
    let at = here_at _ _ _ c.requires.sound c.requires.sizes c.search-test.true c.search.invariant.pass in
    let inv = c.search.invariant in
    let most = few_plans at in
    let is_old = c.states_before-old.ensures c.args.table.now whole in
    let own = may_move at _ _ is_old (c.words_of-words.ensures c.args.table.now whole) in
    step_facts _ _ _ _ _ own _ whole _ (before_surveyed at _ _ is_old inv.surveyed) (omega (arith, inv.sets_long, most)) _
    (omega (arith, inv.picks_long, c.find_picks.auto.picks, most))
    (picks_small at _ _ _ c.find_picks.ensures)

pub advance-requires-clause-names : goal.advance-requires-clause-names
advance-requires-clause-names c =
    let whole = c.requires.sizes.0 in
    let at = here_at _ _ _ c.requires.sound c.requires.sizes c.search-test.true c.search.invariant.pass in
    let own = may_move at _ _ (c.states_before-old.ensures c.args.table.now whole) (c.words_of-words.ensures c.args.table.now whole) in
    known_names _ _ _ _ _ own _ whole

pub advance-requires-clause-room : goal.advance-requires-clause-room
advance-requires-clause-room c =
    let whole = c.requires.sizes.0 in
    let at = here_at _ _ _ c.requires.sound c.requires.sizes c.search-test.true c.search.invariant.pass in
    let own = may_move at _ _ (c.states_before-old.ensures c.args.table.now whole) (c.words_of-words.ensures c.args.table.now whole) in
    (whole, omega (arith, c.search.invariant.new_long, few_plans at), omega (arith, own.words, whole))

pub resurvey-requires-clause-rooted : goal.resurvey-requires-clause-rooted
resurvey-requires-clause-rooted c = rooted _ c.requires.sound.prepared.done _ c.requires.sizes.0

pub resurvey-requires-clause-narrow : goal.resurvey-requires-clause-narrow
resurvey-requires-clause-narrow c =
    narrow _ _ _ _ _ (idle_moves c.requires.sound c.requires.sizes.0) _ c.requires.sizes.0

pub resurvey-requires-clause-room : goal.resurvey-requires-clause-room
resurvey-requires-clause-room c =
    let whole = c.requires.sizes.0 in
    let at = here_at _ _ _ c.requires.sound c.requires.sizes c.search-test.true c.search.invariant.pass in
    let own = may_move at _ _ (c.states_before-old.ensures c.args.table.now whole) (c.words_of-words.ensures c.args.table.now whole) in (
      omega (arith, whole, own.prepared.ranks_room),
      omega (arith, whole, own.passes.long),
      omega (arith, shown_long at _ (c.states_of-shown.ensures c.args.table.now whole)),
      omega (arith, few_plans at, c.search.invariant.sets_long),
    )

pub bounds-shown-p : goal.bounds-shown-p
bounds-shown-p c =
    let at = here_at _ _ _ c.requires.sound c.requires.sizes c.search-test.true c.search.invariant.pass in
    omega (arith, c.loop-p-test.true, shown_long at _ (c.states_of-shown.ensures c.args.table.now c.requires.sizes.0))

pub loop-p-preserved : goal.loop-p-preserved
loop-p-preserved c = (c.loop-p.invariant.0, below_more _ _ c.loop-p.invariant.1 c.if-new-p.false)

pub overflow_add-step : goal.overflow_add-step
overflow_add-step c =
    let at = here_at _ _ _ c.requires.sound c.requires.sizes c.search-test.true c.search.invariant.pass in
    omega (arith, step_fits at)

pub overflow_cast-step : goal.overflow_cast-step
overflow_cast-step c =
    let at = here_at _ _ _ c.requires.sound c.requires.sizes c.search-test.true c.search.invariant.pass in
    omega (arith, step_fits at)

pub returns-in-Some : goal.returns-in-Some
returns-in-Some c =
    let at = here_at _ _ _ c.requires.sound c.requires.sizes c.search-test.true c.search.invariant.pass in
    stops_at_word at _ (c.words_of-words.ensures c.args.table.now c.requires.sizes.0) _ c.lowest_wrong_word-wrong.ensures _ c.in-Some.is

pub resurvey-requires-clause-codes : goal.resurvey-requires-clause-codes
resurvey-requires-clause-codes c =
    let whole = c.requires.sizes.0 in
    let at = here_at _ _ _ c.requires.sound c.requires.sizes c.search-test.true c.search.invariant.pass in
    let is_old = c.states_before-old.ensures c.args.table.now whole in
    let is_words = c.words_of-words.ensures c.args.table.now whole in
    let is_shown = c.states_of-shown.ensures c.args.table.now whole in
    let next =
    passed at _ _ _ _ _ _ is_old is_words is_shown c.lowest_wrong_word-wrong.ensures c.in_default.is c.find_picks.ensures
    c.advance.ensures.moved
    (λ k l. c.loop-p.invariant.1 k (omega arith))
    in
    let own = may_move at _ _ is_old is_words in
    let shown = shown_moves at _ _ is_words is_shown next in
    λ p l. (codes _ _ _ _ _ own _ whole p l, codes _ _ _ _ _ shown _ whole p l)

pub search-preserved : goal.search-preserved
search-preserved c =
    let whole = c.requires.sizes.0 in
    let at = here_at _ _ _ c.requires.sound c.requires.sizes c.search-test.true c.search.invariant.pass in
    let inv = c.search.invariant in
    let is_old = c.states_before-old.ensures c.args.table.now whole in
    let is_words = c.words_of-words.ensures c.args.table.now whole in
    let is_shown = c.states_of-shown.ensures c.args.table.now whole in
    record {
      none = c.loop-p.invariant.0;
      sets_long = c.resurvey.ensures.rest.long ∙ inv.sets_long;
      picks_long = omega (arith, inv.picks_long, c.find_picks.auto.picks);
      kept_long = omega (arith, inv.kept_long, c.find_picks.auto.kept);
      new_long = c.advance.ensures.rest.long ∙ inv.new_long;
      pass =
          passed at _ _ _ _ _ _ is_old is_words is_shown c.lowest_wrong_word-wrong.ensures c.in_default.is c.find_picks.ensures
          c.advance.ensures.moved
          (λ k l. c.loop-p.invariant.1 k (omega arith));
      surveyed = next_surveyed at _ _ is_shown c.resurvey.ensures.found;
    }

pub overflow_cast-result : goal.overflow_cast-result
overflow_cast-result c = omega (arith, few _ _ _ c.requires.sound.done, c.requires.sizes.1)

pub returns-in-Some-unexplained : goal.returns-in-Some-unexplained
returns-in-Some-unexplained c =
    elim c.search-test.branch [
      | else-search-test w ↦ no_place (sym c.in-Some-unexplained.is ∙ w.unexplained-is ∙ c.search.invariant.none)
      | then-search-test+in_default+then-loop-p-test+then-new-p w ↦
          let whole = c.requires.sizes.0 in
          let at = here_at _ _ _ c.requires.sound c.requires.sizes w.search-test.true c.search.invariant.pass in
          let is_words = w.words_of-words.ensures c.args.table.now whole in
          let place = same_place (sym c.in-Some-unexplained.is ∙ w.unexplained-is) in
          rw (place.0, place.1)
          (stops_at_plan at _ _ _ _ _ (w.states_before-old.ensures c.args.table.now whole) is_words
          (w.states_of-shown.ensures c.args.table.now whole)
          w.find_picks.ensures
          w.advance.ensures.moved
          _
          w.loop-p-test.true
          w.loop-p.invariant.1
          w.if-new-p.true
          (words_pass at _ is_words _ w.lowest_wrong_word-wrong.ensures w.in_default.is))
    ]

pub returns : goal.returns
returns c =
    elim c.search-test.branch [
      | else-search-test w ↦ all_steps _ _ _ _ _ c.requires.sound.done c.requires.sizes.1 w.search-test.false c.search.invariant.pass
      | then-search-test+in_default+then-loop-p-test+then-new-p w ↦ no_place (sym w.unexplained-is ∙ c.in_default-unexplained.is)
    ]
