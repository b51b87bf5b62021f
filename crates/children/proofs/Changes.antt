-- Laws of a word when one plan's test changes, and what `resurvey` knows and does in a turn. Assumes nothing.
use mathlib.Core.Path.{◌≡◌, refl, sym, ap, ◌∙◌}
use mathlib.Core.List.{List, map}
use mathlib.Core.Bool.{Bool, true, cond, false≢true}
use Prim.Native.Nat.{ℕ, zero, suc, ◌+◌, ◌-◌, ◌*◌, ◌^◌, ◌≤◌, ◌<◌}
use native.Mathlib.Decide.{ℕ_discrete, dec_lt}
use native.Mathlib.Numerals.{add-one}
use native.Mathlib.Omega.{arith}
use lib.ListN.{length, get_or, set, length-map, length-set}
use lib.Seq.{get_or-set_same, get_or-set_other}
use lib.Dec.{eqb, ltb}
use borrow.Author.Tests.{eq-eqb, ne_eqb, lt-ltb, le-ltb}
use Rattle.rules.specs.Bytes.{byte_at}
use Rattle.rules.specs.Table.{parent, is_child, children_before, rank}
use Rattle.rules.proofs.Digits.{bit}
use Rattle.children.specs.Sets.{set_before, Rooted, Beyond, Surveyed}
use Rattle.children.proofs.Bits.{bits_fit}
use Rattle.children.proofs.Kin.{
  child_parent,
  few_children,
  set_own,
  set_other,
  same_set,
  beyond_none,
  beyond_set,
}

-- the word of a plan fits, where every rank is below 64
word_fits :
    (t : List ℕ) (n : ℕ) → ((p : ℕ) → p < n → rank t p < 64) → (q : ℕ) (f : ℕ → Bool) → set_before t n q f < 2 ^ 64
unfolding set_before
word_fits t n narrow q f =
    bits_fit 64 (map f (children_before t q n)) (simp length-map (few_children t n narrow q n (omega arith)))

-- Two tests that agree on every plan but p.
module _ (t : List ℕ) (f g : ℕ → Bool) (p : ℕ) (later : 0 < p) (agree : (c : ℕ) → (c ≡ p → ⊥) → f c ≡ g c) where
  -- p's bit is in its parent's word by each test that it passes, and the rest of the word is the same
  swap_own :
      (q : ℕ) → parent t p ≡ q → (n : ℕ) → p < n
      → set_before t n q g + bit (f p) * 2 ^ rank t p ≡ set_before t n q f + bit (g p) * 2 ^ rank t p
  swap_own q e zero l = absurd (omega arith)
  swap_own q e (suc k) l = go (ℕ_discrete k p) (ℕ_discrete (parent t k) q) (swap_own q e k)
    where
      go :
          Dec (k ≡ p) → Dec (parent t k ≡ q)
          → (p < k → set_before t k q g + bit (f p) * 2 ^ rank t p ≡ set_before t k q f + bit (g p) * 2 ^ rank t p)
          → set_before t (suc k) q g + bit (f p) * 2 ^ rank t p ≡ set_before t (suc k) q f + bit (g p) * 2 ^ rank t p
      go (yes here) d before =
          rw (here, set_own t f p later q e, set_own t g p later q e, same_set t q f g p (λ c l child. agree c (λ x. omega arith)))
          (omega arith)
      go (no there) (yes own) before =
          rw
          (set_own t f k (omega arith) q own, set_own t g k (omega arith) q own, agree k there)
          (omega (arith, before (omega arith)))
      go (no there) (no other) before =
          rw (set_other t f k (omega arith) q other, set_other t g k (omega arith) q other) (before (omega arith))

  -- it is in no other plan's word
  swap_other : (q : ℕ) → (parent t p ≡ q → ⊥) → (n : ℕ) → set_before t n q g ≡ set_before t n q f
  swap_other q other n =
      sym (same_set t q f g n (λ c l child. agree c (λ e. other (sym (ap (parent t) e) ∙ child_parent t q c child))))

-- the states midway: the plans before p have their new states
abbrev pub midway : List ℕ → List ℕ → ℕ → ℕ → ℕ
midway old new p c = cond (ltb c p) (byte_at new c) (byte_at old c)

module _ (old new : List ℕ) where
  midway_new : (p c : ℕ) → c < p → midway old new p c ≡ byte_at new c
  midway_new p c l = rw (lt-ltb c p l) refl

  midway_old : (p c : ℕ) → p ≤ c → midway old new p c ≡ byte_at old c
  midway_old p c l = rw (le-ltb c p l) refl

  -- one plan more: no other plan's state changes
  midway_next : (p c : ℕ) → (c ≡ p → ⊥) → midway old new p c ≡ midway old new (suc p) c
  midway_next p c other = go (dec_lt c p)
    where
      go : Dec (c < p) → midway old new p c ≡ midway old new (suc p) c
      go (yes l) = midway_new p c l ∙ sym (midway_new (suc p) c (omega arith))
      go (no l) = midway_old p c (omega arith) ∙ sym (midway_old (suc p) c (omega arith))

-- what `resurvey` knows before its turn at plan p
pub record Resurveying (t old new : List ℕ) (n : ℕ) (sets₀ : List ℕ) (p : ℕ) (sets : List ℕ) : Type 0 where
  pub started : 0 < p
  pub within : p ≤ n
  pub room : n * 9 ≤ length sets
  pub rest : Beyond (n * 9) sets₀ sets
  pub word : (q x : ℕ) → q < n → x < 9 → get_or sets (q * 9 + x) 0 ≡ set_before t n q (λ c. eqb (midway old new p c) x)

-- before the first turn: plan 0 is in no word
pub resurvey_root :
    (t old new : List ℕ) (n : ℕ) (sets : List ℕ) → 0 < n → n * 9 ≤ length sets → Surveyed t old n sets
    → Resurveying t old new n sets 1 sets
resurvey_root t old new n sets some room surveyed =
    record {
      started = omega arith;
      within = omega arith;
      room = room;
      rest = beyond_none _ _;
      word = λ q x lq lx. surveyed.word q x lq lx ∙ same_set t q _ _ n (λ c l child. same q x c child);
    }
  where
    same : (q x c : ℕ) → is_child t q c ≡ true → eqb (byte_at old c) x ≡ eqb (midway old new 1 c) x
    same q x zero child = absurd (false≢true child)
    same q x (suc c) child = rw (midway_old old new 1 (suc c) (omega arith)) refl

-- after the last turn
pub resurvey_end :
    (t old new : List ℕ) (n p : ℕ) (sets₀ sets : List ℕ) → n ≤ p → Resurveying t old new n sets₀ p sets → Surveyed t new n sets
resurvey_end t old new n p sets₀ sets end after =
    record {
      word =
          λ q x lq lx.
          after.word q x lq lx
          ∙ same_set t q _ _ n (λ c l child. ap (λ (k : ℕ). eqb k x) (midway_new old new p c (omega arith)));
    }

-- a turn at a plan whose state is the same
pub resurvey_skip :
    (t old new : List ℕ) (n p : ℕ) (sets₀ sets : List ℕ) → Resurveying t old new n sets₀ p sets → p < n → byte_at old p ≡ byte_at new p
    → Resurveying t old new n sets₀ (p + 1) sets
resurvey_skip t old new n p sets₀ sets before l e =
    record {
      started = omega arith;
      within = omega arith;
      room = before.room;
      rest = before.rest;
      word =
          λ q x lq lx.
          before.word q x lq lx
          ∙ rw (add-one p) (same_set t q _ _ n (λ c lc child. ap (λ (k : ℕ). eqb k x) (same c (ℕ_discrete c p))));
    }
  where
    same : (c : ℕ) → Dec (c ≡ p) → midway old new p c ≡ midway old new (suc p) c
    same c (yes here) =
        rw here (midway_old old new p p (omega arith) ∙ e ∙ sym (midway_new old new (suc p) p (omega arith)))
    same c (no other) = midway_next old new p c other

-- a word less a bit, and a word with a bit more
abbrev pub less_at : List ℕ → ℕ → ℕ → List ℕ
less_at sets i v = set sets i (get_or sets i 0 - v)

abbrev pub more_at : List ℕ → ℕ → ℕ → List ℕ
more_at sets i v = set sets i (get_or sets i 0 + v)

-- what a turn at plan p, the child of q that goes from state x to z, with v as its bit needs and does, in the code's words; the second
-- store is at another word, whatever the first one leaves
pub record ResurveyTurn (t old new : List ℕ) (n : ℕ) (sets₀ : List ℕ) (p : ℕ) (sets : List ℕ) (q x z v : ℕ) : Type 0 where
  pub above : q < n
  pub reads : q * 9 + x < length sets
  pub has : v ≤ get_or sets (q * 9 + x) 0
  pub reads_next : (w : ℕ) → q * 9 + z < length (set sets (q * 9 + x) w)
  pub fits : (w : ℕ) → get_or (set sets (q * 9 + x) w) (q * 9 + z) 0 + v < 2 ^ 64
  pub next : Resurveying t old new n sets₀ (p + 1) (more_at (less_at sets (q * 9 + x) v) (q * 9 + z) v)

module _
    (t old new : List ℕ)
    (n p : ℕ)
    (rooted : Rooted t n)
    (narrow : (k : ℕ) → k < n → rank t k < 64)
    (sets₀ sets : List ℕ)
    (before : Resurveying t old new n sets₀ p sets)
    (l : p < n)
    (q x z v : ℕ)
    (eq : q ≡ parent t p)
    (ex : x ≡ byte_at old p)
    (ez : z ≡ byte_at new p)
    (lx : x < 9)
    (lz : z < 9)
    (ne : x ≡ z → ⊥)
    (ev : v ≡ 2 ^ rank t p)
  where
    inside : q < n
    inside = omega (arith, rooted.down p before.started l)

    abbrev stood : ℕ → ℕ → Bool
    stood y c = eqb (midway old new p c) y

    abbrev stands : ℕ → ℕ → Bool
    stands y c = eqb (midway old new (suc p) c) y

    agree : (y c : ℕ) → (c ≡ p → ⊥) → stood y c ≡ stands y c
    agree y c other = ap (λ (k : ℕ). eqb k y) (midway_next old new p c other)

    stood_at : (y : ℕ) → stood y p ≡ eqb x y
    stood_at y = rw (midway_old old new p p (omega arith), ex) refl

    stands_at : (y : ℕ) → stands y p ≡ eqb z y
    stands_at y = rw (midway_new old new (suc p) p (omega arith), ez) refl

    -- the words of q, by p's two states
    own : (y : ℕ) → set_before t n q (stands y) + bit (eqb x y) * v ≡ set_before t n q (stood y) + bit (eqb z y) * v
    own y =
        rw (← stood_at y, ← stands_at y, ev)
        (swap_own t (stood y) (stands y) p before.started (agree y) q (sym eq) n l)

    from_x : set_before t n q (stands x) + v ≡ get_or sets (q * 9 + x) 0
    from_x =
        omega
        (arith, before.word q x inside lx, rw (eq-eqb x x refl, ne_eqb z x (λ e. ne (sym e))) at (own x))

    to_z : set_before t n q (stands z) ≡ get_or sets (q * 9 + z) 0 + v
    to_z = omega (arith, before.word q z inside lz, rw (ne_eqb x z ne, eq-eqb z z refl) at (own z))

    as_before : (y : ℕ) → y < 9 → (y ≡ x → ⊥) → (y ≡ z → ⊥) → set_before t n q (stands y) ≡ get_or sets (q * 9 + y) 0
    as_before y ly nx nz =
        omega
        (arith, before.word q y inside ly, rw (ne_eqb x y (λ e. nx (sym e)), ne_eqb z y (λ e. nz (sym e))) at (own y))

    abbrev less : List ℕ
    less = less_at sets (q * 9 + x) v

    other_word : (w : ℕ) → get_or (set sets (q * 9 + x) w) (q * 9 + z) 0 ≡ get_or sets (q * 9 + z) 0
    other_word w = get_or-set_other sets (q * 9 + x) (q * 9 + z) w 0 (λ e. ne (omega arith))

    to_in : (w : ℕ) → q * 9 + z < length (set sets (q * 9 + x) w)
    to_in w = simp length-set (omega (arith, inside))

    word_next :
        (k y : ℕ) → k < n → y < 9 → Dec (k ≡ q) → Dec (y ≡ z) → Dec (y ≡ x)
        → get_or (more_at less (q * 9 + z) v) (k * 9 + y) 0 ≡ set_before t n k (stands y)
    word_next k y lk ly (yes ek) (yes ey) d =
        rw (ek, ey)
        (get_or-set_same less (q * 9 + z) _ 0 (to_in _) ∙ omega (arith, other_word (get_or sets (q * 9 + x) 0 - v), to_z))
    word_next k y lk ly (yes ek) (no nz) (yes ey) =
        rw (ek, ey)
        (get_or-set_other less (q * 9 + z) (q * 9 + x) _ 0 (λ e. ne (omega arith))
        ∙ get_or-set_same sets (q * 9 + x) _ 0 (omega (arith, inside))
        ∙ omega (arith, from_x))
    word_next k y lk ly (yes ek) (no nz) (no nx) =
        rw ek
        (get_or-set_other less (q * 9 + z) (q * 9 + y) _ 0 (λ e. nz (omega arith))
        ∙ get_or-set_other sets (q * 9 + x) (q * 9 + y) _ 0 (λ e. nx (omega arith))
        ∙ sym (as_before y ly nx nz))
    word_next k y lk ly (no nk) d d' =
        get_or-set_other less (q * 9 + z) (k * 9 + y) _ 0 (λ e. nk (omega arith))
        ∙ get_or-set_other sets (q * 9 + x) (k * 9 + y) _ 0 (λ e. nk (omega arith))
        ∙ before.word k y lk ly
        ∙ sym (swap_other t (stood y) (stands y) p before.started (agree y) k (λ e. nk (sym e ∙ sym eq)) n)

    pub resurvey_turn : ResurveyTurn t old new n sets₀ p sets q x z v
    resurvey_turn =
        record {
          above = inside;
          reads = omega (arith, inside);
          has = omega (arith, from_x);
          reads_next = to_in;
          fits = λ w. omega (arith, other_word w, to_z, word_fits t n narrow q (stands z));
          next =
              record {
                started = omega arith;
                within = omega arith;
                room = simp length-set before.room;
                rest =
                    beyond_set (n * 9) sets₀ less (q * 9 + z) _ (omega (arith, inside))
                    (beyond_set (n * 9) sets₀ sets (q * 9 + x) _ (omega (arith, inside)) before.rest);
                word =
                    λ k y lk ly.
                    rw (add-one p) (word_next k y lk ly (ℕ_discrete k q) (ℕ_discrete y z) (ℕ_discrete y x));
              };
        }
