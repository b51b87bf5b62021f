-- The truth that a history tells, and that the pass over its samples answers what is permitted. Assumes nothing.
use Prim.Native.Nat.{ℕ, zero, suc, ◌+◌, ◌≤◌, ◌<◌}
use native.Mathlib.Omega.{arith}
use native.Mathlib.Decide.{ℕ_discrete, dec_lt}
use mathlib.Core.Path.{◌≡◌, refl, sym, subst}
use mathlib.Core.Bool.{Bool, true, false, not, ◌&&◌}
use mathlib.Core.List.{List}
use lib.ListN.{length}
use lib.Dec.{leb, ltb}
use borrow.Author.Tests.{leb-true, ltb-true, lt-ltb, le-ltb, le-leb, lt-leb, not-false}
use Rattle.rules.specs.Answers.{◌and_then◌, refuse_if, Outcome, Done}
use Rattle.rules.specs.declared.Refusal.TheVariants.{ValueRange, ManySamples, TimesOrder}
use Rattle.rules.proofs.Outcomes.{first_done, then_done, if_done}
use Rattle.time.specs.Annotations.{counted, annotation_of, in_range, annotation_in_range}
use Rattle.time.specs.Patterns.{every, minute_at, truth_at, edge, speaks_of, true_at, in_order, Satisfied, samples_check, pattern_check, Judged, refused, satisfied, satisfiable, neither}
use Rattle.time.specs.Search.{window, next, pass_to, can_be, told, answer, judgement_of, Near, NearAll}
use Rattle.time.specs.declared.Annotation.{Annotation}
use Rattle.time.specs.declared.Window.{Window}
use Rattle.time.specs.declared.Pass.{Pass}
use Rattle.time.specs.declared.Pass.TheVariants.{Found, Off, Since}
use Rattle.time.proofs.Tests.{clash, first, second, both, every_at, every_is, every_less, every_fails, some_is, some_fails}
use Rattle.time.proofs.Ranges.{near, near_all}
use Rattle.time.proofs.Passes.{Passed, nothing_yet, sampled}
use Rattle.time.proofs.Continued.{can_sound, can_complete}
use Rattle.std.specs.Prelude.{Ok, Err}
use Rattle.std.proofs.Math.Bool.{and-false}

module _ (h : List ℕ) (asked : ℕ) where
  abbrev n : ℕ
  n = length h

  abbrev e : ℕ → ℕ
  e i = edge h asked i

  pub edge_in : (i : ℕ) → i < n → e i ≡ minute_at h i
  unfolding edge
  edge_in i l = simp (lt-ltb i n l)

  pub edge_end : (i : ℕ) → n ≤ i → e i ≡ asked + 1
  unfolding edge
  edge_end i l = simp (le-ltb i n l)

  -- one turn of the walk that checks the order, from the last sample to the first
  abbrev pub goes_up : ℕ → Bool
  goes_up i = ltb (e i) (e (suc i))

  pub falls_at : (k : ℕ) → k < n → e (suc k) ≤ minute_at h k → in_order h asked ≡ false
  unfolding in_order
  falls_at k l u =
      let here : e k ≡ minute_at h k = edge_in k l in
      every_fails goes_up n k l (le-ltb (e k) (e (suc k)) (omega arith))

  pub rises_at : (k : ℕ) → k < n → minute_at h k < e (suc k) → every goes_up (suc k) ≡ every goes_up k
  rises_at k l u =
      let here : e k ≡ minute_at h k = edge_in k l in
      every_less goes_up k (lt-ltb (e k) (e (suc k)) (omega arith))

  module _ (order : in_order h asked ≡ true) where
    rises : (i : ℕ) → i < n → e i < e (suc i)
    unfolding in_order
    rises i l = ltb-true (e i) (e (suc i)) (every_at (λ j. ltb (e j) (e (suc j))) n order i l)

    grows : (i j : ℕ) → i ≤ j → j ≤ n → e i ≤ e j
    grows i zero l u = let z : i ≡ 0 = omega arith in rw z (omega arith)
    grows i (suc j) l u = go (ℕ_discrete i (suc j)) (grows i j)
      where
        go : Dec (i ≡ suc j) → (i ≤ j → j ≤ n → e i ≤ e j) → e i ≤ e (suc j)
        go (yes d) before = rw d (omega arith)
        go (no d) before =
            let x : e i ≤ e j = before (omega arith) (omega arith) in
            let y : e j < e (suc j) = rises j (omega arith) in
            omega arith

    by_asking : (i : ℕ) → i ≤ n → e i ≤ asked + 1
    by_asking i l = subst (λ (t : ℕ). e i ≤ t) (edge_end n (omega arith)) (grows i n l (omega arith))

    -- a sample that does not speak of a minute
    before_it : (m i : ℕ) → m < e i → (speaks_of h asked m i && truth_at h i) ≡ false
    before_it m i l = simp (lt-leb (e i) m l)

    after_it : (m i : ℕ) → e (suc i) ≤ m → (speaks_of h asked m i && truth_at h i) ≡ false
    after_it m i l = simp (le-ltb m (e (suc i)) l) (no_one (leb (e i) m))
      where
        no_one : (b : Bool) → (b && false && truth_at h i) ≡ false
        no_one true = refl
        no_one false = refl

    pub silent : (m : ℕ) → asked < m → true_at h asked m ≡ false
    unfolding true_at
    silent m l =
        some_fails (λ i. speaks_of h asked m i && truth_at h i) n
        (λ i u. let x : e (suc i) ≤ asked + 1 = by_asking (suc i) (omega arith) in after_it m i (omega arith))

    early : (m : ℕ) → m < e 0 → true_at h asked m ≡ false
    unfolding true_at
    early m l =
        some_fails (λ i. speaks_of h asked m i && truth_at h i) n
        (λ i u. let x : e 0 ≤ e i = grows 0 i (omega arith) (omega arith) in before_it m i (omega arith))

    says : (i m : ℕ) → i < n → e i ≤ m → m < e (suc i) → true_at h asked m ≡ truth_at h i
    unfolding true_at
    says i m l low high = go (truth_at h i) refl
      where
        others : truth_at h i ≡ false → (j : ℕ) → j < n → (speaks_of h asked m j && truth_at h j) ≡ false
        others q j u = at (ℕ_discrete j i) (dec_lt j i)
          where
            at : Dec (j ≡ i) → Dec (j < i) → (speaks_of h asked m j && truth_at h j) ≡ false
            at (yes d) f = rw d (rw q (and-false (speaks_of h asked m i)))
            at (no d) (yes f) = let x : e (suc j) ≤ e i = grows (suc j) i (omega arith) (omega arith) in after_it m j (omega arith)
            at (no d) (no f) = let x : e (suc i) ≤ e j = grows (suc i) j (omega arith) (omega arith) in before_it m j (omega arith)

        go : (v : Bool) → truth_at h i ≡ v → true_at h asked m ≡ v
        go true q =
            some_is (λ j. speaks_of h asked m j && truth_at h j) n i l (rw (le-leb (e i) m low, lt-ltb m (e (suc i)) high, q))
        go false q = some_fails (λ j. speaks_of h asked m j && truth_at h j) n (others q)

    -- the first minute tells whether all are in range, since they end by the minute of asking
    pub first_tells :
        asked ≤ 5000000000 → 0 < n → leb 3000000000 (minute_at h 0) ≡ every (λ i. in_range (minute_at h i)) n
    first_tells ranged some = go (leb 3000000000 (minute_at h 0)) refl
      where
        near_at : leb 3000000000 (minute_at h 0) ≡ true → (i : ℕ) → i < n → in_range (minute_at h i) ≡ true
        near_at q i l =
            let low : 3000000000 ≤ minute_at h 0 = leb-true 3000000000 (minute_at h 0) q in
            let start : e 0 ≡ minute_at h 0 = edge_in 0 some in
            let here : e i ≡ minute_at h i = edge_in i l in
            let grown : e 0 ≤ e i = grows 0 i (omega arith) (omega arith) in
            let over : e i < e (suc i) = rises i l in
            let top : e (suc i) ≤ asked + 1 = by_asking (suc i) (omega arith) in
            both (leb 3000000000 (minute_at h i)) (leb (minute_at h i) 5000000000)
            (le-leb 3000000000 (minute_at h i) (omega arith))
            (le-leb (minute_at h i) 5000000000 (omega arith))

        go : (v : Bool) → leb 3000000000 (minute_at h 0) ≡ v → v ≡ every (λ i. in_range (minute_at h i)) n
        go true q = sym (every_is (λ i. in_range (minute_at h i)) n (near_at q))
        go false q = sym (every_fails (λ i. in_range (minute_at h i)) n 0 some (rw q))

    module _ (a : Annotation) (r : NearAll a) (ranged : asked ≤ 5000000000) where
      abbrev τ : ℕ → Bool
      τ = true_at h asked

      abbrev w : Window
      w = window a a.reference

      passed_to : (k : ℕ) → k ≤ n → Passed a τ (e k) (pass_to w h k)
      unfolding pass_to
      passed_to zero l = nothing_yet a r τ (e 0) early
      passed_to (suc k) l =
          let top : e k ≤ asked + 1 = by_asking k (omega arith) in
          subst (λ (t : ℕ). Passed a τ (e (suc k)) (next w (pass_to w h k) t (truth_at h k))) (edge_in k (omega arith))
          (sampled a r τ (e k) (e (suc k)) (rises k (omega arith)) (omega arith) (pass_to w h k) (truth_at h k)
          (passed_to k (omega arith))
          (λ m p q. says k m (omega arith) p q))

      pub passed : Passed a τ (asked + 1) (pass_to w h n)
      passed = subst (λ (t : ℕ). Passed a τ t (pass_to w h n)) (edge_end n (omega arith)) (passed_to n (omega arith))

      -- after the minute of asking nothing is true, so that a run is over
      pub closed : Passed a τ (asked + 2) (next w (pass_to w h n) (asked + 1) false)
      closed =
          sampled a r τ (asked + 1) (asked + 2) (omega arith) (omega arith) (pass_to w h n) false passed
          (λ m p q. silent m (omega arith))

-- checks 18 to 20, by what each of them finds
module _ (h : List ℕ) (asked : ℕ) where
  abbrev pub minutes_in_range : Bool
  minutes_in_range = every (λ i. in_range (minute_at h i)) (length h)

  pub refuses_range : minutes_in_range ≡ false → samples_check h asked ≡ Err ValueRange
  unfolding samples_check ◌and_then◌ refuse_if
  refuses_range e = rw e

  pub refuses_many : minutes_in_range ≡ true → 1024 < length h → samples_check h asked ≡ Err ManySamples
  unfolding samples_check ◌and_then◌ refuse_if
  refuses_many e l = rw (e, lt-ltb 1024 (length h) l)

  pub refuses_order : minutes_in_range ≡ true → length h ≤ 1024 → in_order h asked ≡ false → samples_check h asked ≡ Err TimesOrder
  unfolding samples_check ◌and_then◌ refuse_if
  refuses_order e l o = rw (e, le-ltb 1024 (length h) l, o)

  pub passes : minutes_in_range ≡ true → length h ≤ 1024 → in_order h asked ≡ true → samples_check h asked ≡ Done
  unfolding samples_check ◌and_then◌ refuse_if
  passes e l o = rw (e, le-ltb 1024 (length h) l, o)

  module _ (a : Annotation) where
    pub refuses_first : (annotation_in_range a && in_range asked) ≡ false → pattern_check a h asked ≡ Err ValueRange
    unfolding pattern_check ◌and_then◌ refuse_if
    refuses_first e = rw e

    pub passes_first : (annotation_in_range a && in_range asked) ≡ true → pattern_check a h asked ≡ samples_check h asked
    unfolding pattern_check ◌and_then◌ refuse_if
    passes_first e = rw e

    -- and what is so where they pass
    module _ (done : pattern_check a h asked ≡ Done) where
      abbrev many : Outcome
      many = refuse_if (ltb 1024 (length h)) ManySamples

      abbrev late : Outcome
      late = refuse_if (not (in_order h asked)) TimesOrder

      abbrev wrong : Outcome
      wrong = refuse_if (not (annotation_in_range a && in_range asked)) ValueRange

      pub order : in_order h asked ≡ true
      unfolding pattern_check samples_check
      order =
          not-false (in_order h asked)
          (if_done (not (in_order h asked)) TimesOrder
          (then_done many late
          (then_done (refuse_if (not minutes_in_range) ValueRange) (many and_then late) (then_done wrong (samples_check h asked) done))))

      is_in_range : (annotation_in_range a && in_range asked) ≡ true
      unfolding pattern_check
      is_in_range =
          not-false (annotation_in_range a && in_range asked)
          (if_done (not (annotation_in_range a && in_range asked)) ValueRange (first_done wrong (samples_check h asked) done))

      pub nears : NearAll a
      nears = near_all a (first (annotation_in_range a) (in_range asked) is_in_range)

      pub asked_near : Near asked
      asked_near = near asked (second (annotation_in_range a) (in_range asked) is_in_range)

-- what its `check` stands on
pub ruleset checks = (refuses_range, refuses_many, refuses_order, passes)

-- what the code answers is permitted
module _ (l h : List ℕ) (z : ℕ) where
  abbrev a : Annotation
  a = annotation_of l

  abbrev asked : ℕ
  asked = counted z

  abbrev w' : Window
  w' = window a a.reference

  module _ (done : pattern_check a h asked ≡ Done) where
    ordered : in_order h asked ≡ true
    ordered = order h asked a done

    close : NearAll a
    close = nears h asked a done

    top : asked ≤ 5000000000
    top = (asked_near h asked a done).1

    -- nothing satisfies where the pass has found nothing
    none_left : Passed a (true_at h asked) (asked + 2) Off → Satisfied a (true_at h asked) → ⊥
    none_left st y =
        let behind : asked + 2 ≤ y.t1 = st.none y.t1 y.t2 y.satisfies in
        clash (y.satisfies.holds y.t1 (omega arith) y.satisfies.admits.ordered) (silent h asked ordered y.t1 (omega arith))

    pub judged : Judged l h z (Ok (judgement_of a h asked))
    unfolding judgement_of answer
    judged = go (next w' pass (asked + 1) false) refl (can_be w' pass asked) refl (closed h asked ordered a close top)
      where
        pass : Pass
        pass = pass_to w' h (length h)

        left : Passed a (true_at h asked) (asked + 1) pass
        left = passed h asked ordered a close top

        go :
            (last : Pass) → next w' pass (asked + 1) false ≡ last → (can : Bool) → can_be w' pass asked ≡ can
            → Passed a (true_at h asked) (asked + 2) last
            → Judged l h z (Ok (told last can))
        go (Found t1 t2) q can c st = satisfied t1 t2 done st.satisfies st.least
        go Off q true c st =
            satisfiable done (none_left st) (can_sound a close (true_at h asked) asked (silent h asked ordered) top pass left c)
        go Off q false c st =
            neither done
            (λ y. clash (can_complete a close (true_at h asked) asked (silent h asked ordered) top pass left (none_left st) y) c)
        go (Since b) q can c st =
            let some : b < asked + 2 = st.some in
            clash (st.inside (asked + 1) (omega arith) (omega arith)) (silent h asked ordered (asked + 1) (omega arith))

-- what `judge` of crate `pattern` stands on
pub ruleset judging = (refused, refuses_first, passes_first, first, near_all, judged)
