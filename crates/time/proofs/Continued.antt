-- What some continuation of a history can satisfy: the run that goes on, or a fresh one. Assumes nothing.
use Prim.Native.Nat.{ℕ, ◌+◌, ◌-◌, ◌≤◌, ◌<◌, max}
use native.Mathlib.Omega.{arith}
use native.Mathlib.Decide.{dec_lt, dec_le}
use mathlib.Core.Path.{◌≡◌, refl, sym, ◌∙◌, subst}
use mathlib.Core.Logic.{◌⊎◌, inl, inr}
use mathlib.Core.Bool.{Bool, true, false, cond, ◌&&◌, ◌||◌}
use lib.Dec.{leb}
use borrow.Author.Tests.{le-leb, lt-leb}
use Rattle.time.specs.Annotations.{base, Exactly, Admits}
use Rattle.time.specs.Patterns.{Satisfies, Satisfied, Satisfiable}
use Rattle.time.specs.Search.{far, window_to, window, first_of, finish, soonest, goes_on, starts_from, can_be, NearAll}
use Rattle.time.specs.declared.Annotation.{Annotation}
use Rattle.time.specs.declared.Window.{Window}
use Rattle.time.specs.declared.Pass.{Pass}
use Rattle.time.specs.declared.Pass.TheVariants.{Found, Off, Since}
use Rattle.time.proofs.Tests.{clash}
use Rattle.time.proofs.Windows.{
  Within,
  admitted_sound,
  admitted_complete,
  from_window,
  to_window,
  soonest_within,
  finished_within,
  same_soonest,
  soonest_small,
  finish_small,
  first_small,
  nearer,
}
use Rattle.time.proofs.Runs.{start_flank, start_is, started_at}
use Rattle.time.proofs.Passes.{Going, Passed}

-- a history until the minute of asking, and then true from p to q
continued : (ℕ → Bool) → ℕ → ℕ → ℕ → ℕ → Bool
continued τ asked p q m = cond (leb m asked) (τ m) (leb p m && leb m q)

module _ (τ : ℕ → Bool) (asked p q m : ℕ) where
  still : m ≤ asked → continued τ asked p q m ≡ τ m
  unfolding continued
  still l = simp (le-leb m asked l)

  then : asked < m → p ≤ m → m ≤ q → continued τ asked p q m ≡ true
  unfolding continued
  then l u v = simp (lt-leb m asked l, le-leb p m u, le-leb m q v)

  not_yet : asked < m → m < p → continued τ asked p q m ≡ false
  unfolding continued
  not_yet l u = simp (lt-leb m asked l, lt-leb p m u)

  no_more : asked < m → q < m → continued τ asked p q m ≡ false
  unfolding continued
  no_more l u = simp (lt-leb m asked l) (go (leb p m))
    where
      go : (b : Bool) → (b && leb m q) ≡ false
      go true = simp (lt-leb m q u)
      go false = refl

-- what is satisfied is satisfiable
pub still_satisfiable :
    (a : Annotation) (τ : ℕ → Bool) (asked : ℕ) → ((m : ℕ) → asked < m → τ m ≡ false) → Satisfied a τ → Satisfiable a τ asked
still_satisfiable a τ asked silent y =
    record { until = asked; later = τ; after = omega arith; same = λ m l. refl; stops = silent; satisfied = y }

module _ (a : Annotation) (n : NearAll a) where
  abbrev r : ℕ
  r = a.reference

  abbrev w : Window
  w = window a r

  admits : (t1 t2 : ℕ) → Within w t1 t2 → Admits base a t1 t2
  admits t1 t2 m = from_window a n base r refl (omega (arith, n.reference)) far t1 t2 m

  -- an interval that is admitted lies in a window that is wide enough
  wide : (t1 t2 : ℕ) → Admits base a t1 t2 → Within (window_to (far + t1 + t2) a r) t1 t2
  wide t1 t2 m =
      to_window a n base r refl (omega (arith, n.reference)) (far + t1 + t2) t1 t2 (omega arith) (omega arith) (omega arith) m

  -- a run that is yet to start
  module _ (k : ℕ) where
    abbrev u1 : ℕ
    u1 = soonest w k

    abbrev u2 : ℕ
    u2 = finish w u1

    starts_complete : (t1 t2 : ℕ) → k ≤ 6000000000 → k ≤ t1 → Admits base a t1 t2 → starts_from w k ≡ true
    unfolding starts_from
    starts_complete t1 t2 small l m =
        let beyond = far + t1 + t2 in
        let room = n.reference.1 in
        let least : base ≤ a.least = n.low in
        let found = soonest_within (window_to beyond a r) k t1 t2 l (wide t1 t2 m) least in
        let here : Within (window_to beyond a r) u1 u2 =
        subst (λ (u : ℕ). Within (window_to beyond a r) u (finish w u)) (same_soonest a n r beyond room (omega arith) k) found in
        let s1 = soonest_small a n r beyond room (omega arith) k small in
        let s2 = finish_small a n r beyond room (omega arith) u1 s1 in
        admitted_complete w u1 u2 (nearer a n r beyond room (omega arith) u1 u2 (omega arith) s2 here)

    starts_sound :
        (τ : ℕ → Bool) (asked : ℕ) → asked < k → ((m : ℕ) → m ≤ asked → k ≤ m + 1 → τ m ≡ false) → starts_from w k ≡ true
        → Satisfiable a τ asked
    unfolding starts_from
    starts_sound τ asked l quiet e =
        let m = admits u1 u2 (admitted_sound w u1 u2 e) in
        let low : k ≤ u1 = omega arith in
        let o : u1 ≤ u2 = m.ordered in
        record {
          until = u2;
          later = continued τ asked u1 u2;
          after = omega arith;
          same = λ i d. still τ asked u1 u2 i d;
          stops = λ i d. no_more τ asked u1 u2 i (omega arith) d;
          satisfied = record {
            t1 = u1;
            t2 = u2;
            satisfies = record {
              holds = λ i d f. then τ asked u1 u2 i (omega arith) d f;
              admits = m;
              starts = inl (λ i d. before i d low (dec_le i asked));
              ends = inl (no_more τ asked u1 u2 (u2 + 1) (omega arith) (omega arith));
            };
          };
        }
      where
        before : (i : ℕ) → i + 1 ≡ u1 → k ≤ u1 → Dec (i ≤ asked) → continued τ asked u1 u2 i ≡ false
        before i d low (yes f) = still τ asked u1 u2 i f ∙ quiet i f (omega arith)
        before i d low (no f) = not_yet τ asked u1 u2 i (omega arith) (omega arith)

  -- a run that goes on
  module _ (b asked : ℕ) where
    abbrev s : ℕ
    s = first_of w b

    abbrev f : ℕ
    f = max asked (finish w s)

    goes_complete : (t2 : ℕ) → b ≤ 6000000000 → asked ≤ 6000000000 → Admits base a s t2 → asked ≤ t2 → goes_on w b asked ≡ true
    unfolding goes_on
    goes_complete t2 small early m l =
        let beyond = far + s + t2 in
        let room = n.reference.1 in
        let s1 = first_small a n r beyond room (omega arith) b small in
        let s2 = finish_small a n r beyond room (omega arith) s (omega arith) in
        let here = finished_within (window_to beyond a r) s t2 asked (wide s t2 m) l in
        admitted_complete w s f (nearer a n r beyond room (omega arith) s f (omega arith) (omega arith) here)

    goes_sound : (τ : ℕ → Bool) → Going a τ b (asked + 1) → goes_on w b asked ≡ true → Satisfiable a τ asked
    unfolding goes_on
    goes_sound τ g e =
        let m = admits s f (admitted_sound w s f e) in
        record {
          until = f;
          later = continued τ asked 0 f;
          after = omega arith;
          same = λ i d. still τ asked 0 f i d;
          stops = λ i d. no_more τ asked 0 f i (omega arith) d;
          satisfied = record {
            t1 = s;
            t2 = f;
            satisfies = record {
              holds = λ i d u. on i d u (dec_le i asked);
              admits = m;
              starts = started (start_flank r n.reference a.ess b n.ess);
              ends = inl (no_more τ asked 0 f (f + 1) (omega arith) (omega arith));
            };
          };
        }
      where
        on : (i : ℕ) → s ≤ i → i ≤ f → Dec (i ≤ asked) → continued τ asked 0 f i ≡ true
        on i d u (yes l) = still τ asked 0 f i l ∙ g.inside i (omega arith) (omega arith)
        on i d u (no l) = then τ asked 0 f i (omega arith) (omega arith) u

        started : (s ≡ b) ⊎ Exactly base r a.ess s → ((i : ℕ) → i + 1 ≡ s → continued τ asked 0 f i ≡ false) ⊎ Exactly base r a.ess s
        started (inl q) = inl (λ i d. let some : b < asked + 1 = g.some in still τ asked 0 f i (omega arith) ∙ g.before i (d ∙ q))
        started (inr q) = inr q

  module _ (τ : ℕ → Bool) (asked : ℕ) (silent : (m : ℕ) → asked < m → τ m ≡ false) (early : asked ≤ 5000000000) where
    pub can_sound : (pass : Pass) → Passed a τ (asked + 1) pass → can_be w pass asked ≡ true → Satisfiable a τ asked
    unfolding can_be
    can_sound (Found t1 t2) st e =
        still_satisfiable a τ asked silent (record { t1 = t1; t2 = t2; satisfies = st.satisfies })
    can_sound Off st e = starts_sound (asked + 1) τ asked (omega arith) (λ m l u. st.ended m (omega arith)) e
    can_sound (Since b) st e = go (goes_on w b asked) refl e
      where
        go : (x : Bool) → goes_on w b asked ≡ x → (x || starts_from w (asked + 2)) ≡ true → Satisfiable a τ asked
        go true q p = goes_sound b asked τ st q
        go false q p = starts_sound (asked + 2) τ asked (omega arith) (λ m l u. absurd (omega arith)) p

    -- an interval that satisfies a continuation
    module _ (later : ℕ → Bool) (same : (m : ℕ) → m ≤ asked → later m ≡ τ m) (t1 t2 : ℕ) (y : Satisfies a later t1 t2) where
      -- what ends before the minute of asking satisfies the history itself
      past : t2 < asked → Satisfies a τ t1 t2
      past l =
          let o : t1 ≤ t2 = y.admits.ordered in
          record {
            holds = λ m d u. sym (same m (omega arith)) ∙ y.holds m d u;
            admits = y.admits;
            starts = started y.starts;
            ends = ended y.ends;
          }
        where
          started :
              ((m : ℕ) → m + 1 ≡ t1 → later m ≡ false) ⊎ Exactly base r a.ess t1
              → ((m : ℕ) → m + 1 ≡ t1 → τ m ≡ false) ⊎ Exactly base r a.ess t1
          started (inl x) = inl (λ m d. let o : t1 ≤ t2 = y.admits.ordered in sym (same m (omega arith)) ∙ x m d)
          started (inr x) = inr x

          ended : (later (t2 + 1) ≡ false) ⊎ Exactly base r a.lfs t2 → (τ (t2 + 1) ≡ false) ⊎ Exactly base r a.lfs t2
          ended (inl x) = inl (sym (same (t2 + 1) (omega arith)) ∙ x)
          ended (inr x) = inr x

      held : (m : ℕ) → t1 ≤ m → m ≤ t2 → m ≤ asked → τ m ≡ true
      held m l u v = sym (same m v) ∙ y.holds m l u

      -- it starts in the run that goes on, or at the minute after the one of asking
      module _ (b : ℕ) (g : Going a τ b (asked + 1)) (ends : asked ≤ t2) (soon : t1 ≤ asked + 1) where
        behind : b ≤ t1
        behind = go (dec_le b t1)
          where
            go : Dec (b ≤ t1) → b ≤ t1
            go (yes d) = d
            go (no d) =
                let some : b < asked + 1 = g.some in
                clash (held (b - 1) (omega arith) (omega arith) (omega arith)) (g.before (b - 1) (omega arith))

        starts_there : s b asked ≡ t1
        starts_there =
            start_is r n.reference a.ess b t1 n.ess behind (wide t1 t2 y.admits).ess
            (started_at a n later b t1 t2 (λ m p q. same m (omega arith) ∙ g.inside m p (omega arith)) y behind)

        goes : goes_on w b asked ≡ true
        goes =
            let some : b < asked + 1 = g.some in
            goes_complete b asked t2 (omega arith) (omega arith)
            (subst (λ (t : ℕ). Admits base a t t2) (sym starts_there) y.admits)
            ends

      reached : (pass : Pass) → Passed a τ (asked + 1) pass → asked ≤ t2 → can_be w pass asked ≡ true
      unfolding can_be
      reached (Found u1 u2) st ends = refl
      reached Off st ends = go (dec_le t1 asked)
        where
          go : Dec (t1 ≤ asked) → starts_from w (asked + 1) ≡ true
          go (yes d) = clash (held asked d ends (omega arith)) (st.ended asked refl)
          go (no d) = starts_complete (asked + 1) t1 t2 (omega arith) (omega arith) y.admits
      reached (Since b) st ends = go (dec_le t1 (asked + 1))
        where
          go : Dec (t1 ≤ asked + 1) → (goes_on w b asked || starts_from w (asked + 2)) ≡ true
          go (yes d) = rw (goes b st ends d)
          go (no d) = or_right (goes_on w b asked) (starts_complete (asked + 2) t1 t2 (omega arith) (omega arith) y.admits)
            where
              or_right : (x : Bool) → starts_from w (asked + 2) ≡ true → (x || starts_from w (asked + 2)) ≡ true
              or_right true e = refl
              or_right false e = e

    pub can_complete : (pass : Pass) → Passed a τ (asked + 1) pass → (Satisfied a τ → ⊥) → Satisfiable a τ asked → can_be w pass asked ≡ true
    can_complete pass st none z =
        let y = z.satisfied in
        go y.t1 y.t2 y.satisfies (dec_lt y.t2 asked)
      where
        go : (t1 t2 : ℕ) → Satisfies a z.later t1 t2 → Dec (t2 < asked) → can_be w pass asked ≡ true
        go t1 t2 y (yes d) = absurd (none (record { t1 = t1; t2 = t2; satisfies = past z.later z.same t1 t2 y d }))
        go t1 t2 y (no d) = reached z.later z.same t1 t2 y pass st (omega arith)
