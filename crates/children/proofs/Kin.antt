-- Laws of children: one plan more, and what it does to a word. Assumes nothing.
use mathlib.Core.Path.{◌≡◌, refl, sym, ap, ◌∙◌}
use mathlib.Core.List.{List, [], ◌∷◌, ◌++◌, map, map-append, append-nil}
use mathlib.Core.Bool.{Bool, true, false, cond, ◌&&◌, ◌||◌, or-false, or_assoc, false≢true}
use Prim.Native.Nat.{ℕ, zero, suc, ◌+◌, ◌*◌, ◌%◌, ◌^◌, ◌≤◌, ◌<◌}
use native.Mathlib.Decide.{ℕ_discrete}
use native.Mathlib.Numerals.{add-one}
use native.Mathlib.Omega.{arith}
use lib.ListN.{length, get_or, set, length-append, length-map, length-set}
use lib.Seq.{get_or-set_same, get_or-set_other}
use lib.Dec.{eqb}
use borrow.Author.Tests.{eq-eqb, ne_eqb, eqb-true}
use Rattle.std.proofs.lemmas.Nat.{shl_whole}
use Rattle.rules.specs.Bytes.{byte_at}
use Rattle.rules.specs.Lists.{some}
use Rattle.rules.specs.Table.{parent, is_child, children_before, rank}
use Rattle.rules.proofs.Digits.{bit}
use Rattle.children.specs.Sets.{bits, set_before, Rooted, Beyond, Ranked, Collected}
use Rattle.children.proofs.Bits.{bit_le, bits_snoc, bits_fit}

-- one plan more in a list, or none
pub some_snoc : (f : ℕ → Bool) (xs : List ℕ) (k : ℕ) (b : Bool) → some f (xs ++ cond b (k ∷ []) []) ≡ (some f xs || b && f k)
some_snoc f [] k true = or-false (f k)
some_snoc f [] k false = refl
some_snoc f (x ∷ xs) k b = ap (λ (r : Bool). f x || r) (some_snoc f xs k b) ∙ sym (or_assoc (f x) (some f xs) (b && f k))

module _ (t : List ℕ) where
  is_child_lem : (q p : ℕ) → 0 < p → is_child t q p ≡ eqb (parent t p) q
  is_child_lem q zero h = absurd (omega arith)
  is_child_lem q (suc p) h = refl

  -- plan p joins its parent's children, and no other's
  pub children_own : (q p : ℕ) → 0 < p → parent t p ≡ q → children_before t q (suc p) ≡ children_before t q p ++ p ∷ []
  unfolding children_before
  children_own q p h e = rw (is_child_lem q p h ∙ eq-eqb _ _ e)

  pub children_other : (q p : ℕ) → 0 < p → (parent t p ≡ q → ⊥) → children_before t q (suc p) ≡ children_before t q p
  unfolding children_before
  children_other q p h e = rw (is_child_lem q p h ∙ ne_eqb _ _ e) (append-nil (children_before t q p))

  -- plan 0 is nobody's child, and no plan has a child before it
  few_by : (l : List ℕ) (k m : ℕ) (b : Bool) → length l ≤ m → length (l ++ cond b (k ∷ []) []) ≤ suc m
  few_by l k m true h = simp length-append (omega arith)
  few_by l k m false h = simp length-append (omega arith)

  pub children_few : (q p : ℕ) → 0 < p → length (children_before t q p) < p
  unfolding children_before
  children_few q zero h = absurd (omega arith)
  children_few q (suc zero) h = omega arith
  children_few q (suc (suc k)) h =
      let few = children_few q (suc k) (omega arith) in
      omega (arith, few_by (children_before t q (suc k)) (suc k) k (is_child t q (suc k)) (omega arith))

  pub children_none : (n : ℕ) → Rooted t n → (q k : ℕ) → k ≤ n → k ≤ suc q → children_before t q k ≡ []
  unfolding children_before
  children_none n rooted q zero l h = refl
  children_none n rooted q (suc zero) l h = refl
  children_none n rooted q (suc (suc k)) l h =
      children_other q (suc k) (omega arith) (λ e. omega (arith, rooted.down (suc k) (omega arith) (omega arith)))
      ∙ children_none n rooted q (suc k) (omega arith) (omega arith)

  -- who is a child of q has q for a parent
  pub child_parent : (q p : ℕ) → is_child t q p ≡ true → parent t p ≡ q
  child_parent q zero e = absurd (false≢true e)
  child_parent q (suc p) e = eqb-true (parent t (suc p)) q e

  -- ranks below 64 make at most 64 children
  pub few_children : (n : ℕ) → ((p : ℕ) → p < n → rank t p < 64) → (q k : ℕ) → k ≤ n → length (children_before t q k) ≤ 64
  unfolding children_before rank
  few_children n narrow q zero l = omega arith
  few_children n narrow q (suc k) l = go (is_child t q k) (child_parent q k) (few_children n narrow q k (omega arith))
    where
      go :
          (b : Bool) → (b ≡ true → parent t k ≡ q) → length (children_before t q k) ≤ 64
          → length (children_before t q k ++ cond b (k ∷ []) []) ≤ 64
      go true own ih =
          let e = own refl in
          let r : length (children_before t q k) < 64 = rw e at (narrow k (omega arith)) in
          simp length-append (omega arith)
      go false own ih = simp length-append (omega arith)

-- a store below n
pub beyond_set : (n : ℕ) (old new : List ℕ) (i v : ℕ) → i < n → Beyond n old new → Beyond n old (set new i v)
beyond_set n old new i v h b =
    record {
      long = length-set new i v ∙ b.long;
      rest = λ k l. get_or-set_other new i k v 0 (λ e. omega arith) ∙ b.rest k l;
    }

pub beyond_none : (n : ℕ) (l : List ℕ) → Beyond n l l
beyond_none n l = record { long = refl; rest = λ k h. refl }

pub beyond_trans : (n : ℕ) (a b c : List ℕ) → Beyond n a b → Beyond n b c → Beyond n a c
beyond_trans n a b c h k = record { long = k.long ∙ h.long; rest = λ i l. k.rest i l ∙ h.rest i l }

-- before the first turn
pub ranked_none : (t : List ℕ) (n : ℕ) (ranks counts : List ℕ) → n ≡ 0 → Ranked t n ranks counts
ranked_none t n ranks counts e = record { ranked = λ p l. absurd (omega arith); counted = λ q l. absurd (omega arith) }

pub ranked_root : (t ranks counts : List ℕ) → byte_at ranks 0 ≡ 0 → byte_at counts 0 ≡ 0 → Ranked t 1 ranks counts
unfolding rank children_before
ranked_root t ranks counts hr hc =
    record {
      ranked = λ p l. let e : p ≡ 0 = omega arith in rw e hr;
      counted = λ q l. let e : q ≡ 0 = omega arith in rw e hc;
    }

-- what `rank_children` knows before its turn at plan p
pub record Ranking (t : List ℕ) (n : ℕ) (ranks₀ counts₀ : List ℕ) (p : ℕ) (ranks counts : List ℕ) : Type 0 where
  pub started : 0 < p
  pub within : p ≤ n
  pub ranks_room : n ≤ length ranks
  pub counts_room : n ≤ length counts
  pub ranks_rest : Beyond n ranks₀ ranks
  pub counts_rest : Beyond n counts₀ counts
  pub found : Ranked t p ranks counts

-- what a turn at plan p, the child of q, needs and does, in the code's words
pub record RankTurn (t : List ℕ) (n : ℕ) (ranks₀ counts₀ : List ℕ) (p : ℕ) (ranks counts : List ℕ) (q : ℕ) : Type 0 where
  pub above : q < p
  pub fits : get_or (set counts p 0) q 0 < p
  pub reads : q < length (set counts p 0)
  pub next :
      Ranking t n ranks₀ counts₀ (p + 1) (set ranks p (get_or (set counts p 0) q 0))
      (set (set counts p 0) q (get_or (set counts p 0) q 0 + 1))

module _
    (t : List ℕ)
    (n p : ℕ)
    (rooted : Rooted t n)
    (ranks₀ counts₀ ranks counts : List ℕ)
    (before : Ranking t n ranks₀ counts₀ p ranks counts)
    (l : p < n)
    (q : ℕ)
    (eq : q ≡ parent t p)
  where
    abbrev r : ℕ
    r = get_or (set counts p 0) q 0

    above : q < p
    above = omega (arith, rooted.down p before.started l)

    rank_is : r ≡ length (children_before t q p)
    rank_is = get_or-set_other counts p q 0 0 (λ e. omega (arith, above)) ∙ before.found.counted q above

    ranked_more : (k : ℕ) → k < p + 1 → Dec (k ≡ p) → get_or (set ranks p r) k 0 ≡ rank t k
    unfolding rank
    ranked_more k lk (yes e) = rw (e, ← eq) (get_or-set_same ranks p r 0 (omega arith) ∙ rank_is)
    ranked_more k lk (no ne) = get_or-set_other ranks p k r 0 ne ∙ before.found.ranked k (omega arith)

    counted_more :
        (k : ℕ)
        → k < p + 1
        → Dec (k ≡ q)
        → Dec (k ≡ p)
        → get_or (set (set counts p 0) q (r + 1)) k 0 ≡ length (children_before t k (suc p))
    counted_more k lk (yes e) d =
        rw (e, children_own t q p before.started (sym eq))
        (get_or-set_same (set counts p 0) q (r + 1) 0 (simp length-set (omega (arith, above)))
        ∙ simp length-append (omega (arith, rank_is)))
    counted_more k lk (no nq) (yes e) =
        get_or-set_other (set counts p 0) q k (r + 1) 0 nq
        ∙ rw (e, children_none t n rooted p (suc p) (omega arith) (omega arith)) (get_or-set_same counts p 0 0 (omega arith))
    counted_more k lk (no nq) (no np) =
        get_or-set_other (set counts p 0) q k (r + 1) 0 nq
        ∙ get_or-set_other counts p k 0 0 np
        ∙ before.found.counted k (omega arith)
        ∙ ap length (sym (children_other t k p before.started (λ e. nq (sym e ∙ sym eq))))

    pub rank_turn : RankTurn t n ranks₀ counts₀ p ranks counts q
    rank_turn =
        record {
          above = above;
          fits = omega (arith, rank_is, children_few t q p before.started);
          reads = simp length-set (omega (arith, above));
          next =
              record {
                started = omega arith;
                within = omega arith;
                ranks_room = simp length-set (omega arith);
                counts_room = simp length-set (omega arith);
                ranks_rest = beyond_set n ranks₀ ranks p r l before.ranks_rest;
                counts_rest =
                    beyond_set n counts₀ (set counts p 0) q (r + 1) (omega (arith, above))
                    (beyond_set n counts₀ counts p 0 l before.counts_rest);
                found =
                    record {
                      ranked = λ k lk. ranked_more k lk (ℕ_discrete k p);
                      counted = λ k lk. rw (add-one p) (counted_more k lk (ℕ_discrete k q) (ℕ_discrete k p));
                    };
              };
        }

-- Words: plan p adds its bit to its parent's word, and to no other's.
module _ (t : List ℕ) (f : ℕ → Bool) (p : ℕ) (h : 0 < p) where
  pub set_own : (q : ℕ) → parent t p ≡ q → set_before t (suc p) q f ≡ set_before t p q f + bit (f p) * 2 ^ rank t p
  unfolding set_before rank
  set_own q e = rw (e, children_own t q p h e) (simp (map-append, bits_snoc, length-map))

  pub set_other : (q : ℕ) → (parent t p ≡ q → ⊥) → set_before t (suc p) q f ≡ set_before t p q f
  unfolding set_before
  set_other q e = rw (children_other t q p h e)

  -- the word of a parent with at most 64 children fits
  pub set_fits : rank t p < 64 → set_before t (suc p) (parent t p) f < 2 ^ 64
  unfolding set_before rank
  set_fits narrow =
      bits_fit 64 (map f (children_before t (parent t p) (suc p)))
      (rw (length-map, children_own t (parent t p) p h refl) (simp length-append (omega arith)))

-- tests that agree on the children among the first k plans make the same set
module _ (t : List ℕ) (q : ℕ) (f g : ℕ → Bool) where
  abbrev AgreeBefore : ℕ → Type 0
  AgreeBefore k = (c : ℕ) → c < k → is_child t q c ≡ true → f c ≡ g c

  same_tests : (k : ℕ) → AgreeBefore k → map f (children_before t q k) ≡ map g (children_before t q k)
  unfolding children_before
  same_tests zero h = refl
  same_tests (suc k) h = go (is_child t q k) (h k (omega arith)) (same_tests k (λ c l. h c (omega arith)))
    where
      go :
          (b : Bool) → (b ≡ true → f k ≡ g k) → map f (children_before t q k) ≡ map g (children_before t q k)
          → map f (children_before t q k ++ cond b (k ∷ []) []) ≡ map g (children_before t q k ++ cond b (k ∷ []) [])
      go true e ih = simp map-append (rw (ih, e refl) refl)
      go false e ih = simp map-append (rw ih refl)

  pub same_set : (k : ℕ) → AgreeBefore k → set_before t k q f ≡ set_before t k q g
  unfolding set_before
  same_set k h = ap bits (same_tests k h)

-- no bit yet: a plan has no child before it
set_none : (t : List ℕ) (n : ℕ) → Rooted t n → (f : ℕ → Bool) (q k : ℕ) → k ≤ n → k ≤ suc q → set_before t k q f ≡ 0
unfolding set_before bits
set_none t n rooted f q k l h = rw (children_none t n rooted q k l h)

-- the bit of a plan, as the code shifts it by the rank that it has found: nothing is shifted out
pub shifted : (b : Bool) (v r k : ℕ) → v ≡ bit b → r ≡ k → k < 64 → v * 2 ^ r % 2 ^ 64 ≡ bit b * 2 ^ k
shifted b v r k ev er small = rw (ev, er) (shl_whole (bit b) 1 k 64 (omega (arith, bit_le b)) (omega arith))

-- what `collect_named` knows before its turn at plan p
pub record Collecting (t : List ℕ) (n : ℕ) (f : ℕ → Bool) (words₀ : List ℕ) (p : ℕ) (words : List ℕ) : Type 0 where
  pub started : 0 < p
  pub within : p ≤ n
  pub room : n ≤ length words
  pub rest : Beyond n words₀ words
  pub found : Collected t p f words

-- what a turn at plan p, the child of q, with v as its bit needs and does, in the code's words
pub record CollectTurn (t : List ℕ) (n : ℕ) (f : ℕ → Bool) (words₀ : List ℕ) (p : ℕ) (words : List ℕ) (q v : ℕ) : Type 0 where
  pub above : q < p
  pub reads : q < length (set words p 0)
  pub fits : get_or (set words p 0) q 0 + v < 2 ^ 64
  pub next : Collecting t n f words₀ (p + 1) (set (set words p 0) q (get_or (set words p 0) q 0 + v))

module _
    (t : List ℕ)
    (n p : ℕ)
    (rooted : Rooted t n)
    (f : ℕ → Bool)
    (words₀ words : List ℕ)
    (before : Collecting t n f words₀ p words)
    (l : p < n)
    (narrow : rank t p < 64)
    (q v : ℕ)
    (eq : q ≡ parent t p)
    (ev : v ≡ bit (f p) * 2 ^ rank t p)
  where
    earlier : q < p
    earlier = omega (arith, rooted.down p before.started l)

    abbrev added : ℕ
    added = get_or (set words p 0) q 0 + v

    added_is : added ≡ set_before t (suc p) q f
    added_is =
        let old = get_or-set_other words p q 0 0 (λ e. omega (arith, earlier)) ∙ before.found.word q earlier in
        rw (old, ev) (sym (set_own t f p before.started q (sym eq)))

    word_more : (k : ℕ) → k < p + 1 → Dec (k ≡ q) → Dec (k ≡ p) → get_or (set (set words p 0) q added) k 0 ≡ set_before t (suc p) k f
    word_more k lk (yes e) d =
        rw e (get_or-set_same (set words p 0) q added 0 (simp length-set (omega (arith, earlier))) ∙ added_is)
    word_more k lk (no nq) (yes e) =
        get_or-set_other (set words p 0) q k added 0 nq
        ∙ rw (e, set_none t n rooted f p (suc p) (omega arith) (omega arith)) (get_or-set_same words p 0 0 (omega arith))
    word_more k lk (no nq) (no np) =
        get_or-set_other (set words p 0) q k added 0 nq
        ∙ get_or-set_other words p k 0 0 np
        ∙ before.found.word k (omega arith)
        ∙ sym (set_other t f p before.started k (λ e. nq (sym e ∙ sym eq)))

    pub collect_turn : CollectTurn t n f words₀ p words q v
    collect_turn =
        record {
          above = earlier;
          reads = simp length-set (omega (arith, earlier));
          fits = rw (added_is, eq) (set_fits t f p before.started narrow);
          next =
              record {
                started = omega arith;
                within = omega arith;
                room = simp length-set (omega arith);
                rest =
                    beyond_set n words₀ (set words p 0) q added (omega (arith, earlier))
                    (beyond_set n words₀ words p 0 l before.rest);
                found = record { word = λ k lk. rw (add-one p) (word_more k lk (ℕ_discrete k q) (ℕ_discrete k p)) };
              };
        }

pub collected_root : (t : List ℕ) (f : ℕ → Bool) (words : List ℕ) → get_or words 0 0 ≡ 0 → Collected t 1 f words
unfolding set_before children_before bits
collected_root t f words h = record { word = λ q l. let e : q ≡ 0 = omega arith in rw e h }

-- what `survey` knows before its turn at plan p
pub record Surveying (t s : List ℕ) (n : ℕ) (sets₀ : List ℕ) (p : ℕ) (sets : List ℕ) : Type 0 where
  pub started : 0 < p
  pub within : p ≤ n
  pub room : n * 9 ≤ length sets
  pub rest : Beyond (n * 9) sets₀ sets
  pub word : (q x : ℕ) → q < n → x < 9 → get_or sets (q * 9 + x) 0 ≡ set_before t p q (λ c. eqb (byte_at s c) x)

-- what a turn at plan p, the child of q in state x, with v as its bit needs and does, in the code's words
pub record SurveyTurn (t s : List ℕ) (n : ℕ) (sets₀ : List ℕ) (p : ℕ) (sets : List ℕ) (q x v : ℕ) : Type 0 where
  pub above : q < n
  pub reads : q * 9 + x < length sets
  pub fits : get_or sets (q * 9 + x) 0 + v < 2 ^ 64
  pub next : Surveying t s n sets₀ (p + 1) (set sets (q * 9 + x) (get_or sets (q * 9 + x) 0 + v))

module _
    (t s : List ℕ)
    (n p : ℕ)
    (rooted : Rooted t n)
    (sets₀ sets : List ℕ)
    (before : Surveying t s n sets₀ p sets)
    (l : p < n)
    (narrow : rank t p < 64)
    (q x v : ℕ)
    (eq : q ≡ parent t p)
    (ex : x ≡ byte_at s p)
    (lx : x < 9)
    (ev : v ≡ 2 ^ rank t p)
  where
    inside : q < n
    inside = omega (arith, rooted.down p before.started l)

    abbrev stands : ℕ → ℕ → Bool
    stands y c = eqb (byte_at s c) y

    abbrev more : ℕ
    more = get_or sets (q * 9 + x) 0 + v

    more_is : more ≡ set_before t (suc p) q (stands x)
    more_is =
        rw (before.word q x inside lx, ev, set_own t (stands x) p before.started q (sym eq))
        (simp (eq-eqb _ _ (sym ex)) (omega arith))

    survey_more :
        (k y : ℕ) → k < n → y < 9 → Dec (k ≡ q) → Dec (y ≡ x)
        → get_or (set sets (q * 9 + x) more) (k * 9 + y) 0 ≡ set_before t (suc p) k (stands y)
    survey_more k y lk ly (yes ek) (yes ey) = rw (ek, ey) (get_or-set_same sets (q * 9 + x) more 0 (omega (arith, inside)) ∙ more_is)
    survey_more k y lk ly (yes ek) (no ny) =
        get_or-set_other sets (q * 9 + x) (k * 9 + y) more 0 (λ e. ny (omega arith))
        ∙ before.word k y lk ly
        ∙ sym
        (set_own t (stands y) p before.started k (sym eq ∙ sym ek)
        ∙ simp (ne_eqb (byte_at s p) y (λ e. ny (sym e ∙ sym ex))) (omega arith))
    survey_more k y lk ly (no nk) d =
        get_or-set_other sets (q * 9 + x) (k * 9 + y) more 0 (λ e. nk (omega arith))
        ∙ before.word k y lk ly
        ∙ sym (set_other t (stands y) p before.started k (λ e. nk (sym e ∙ sym eq)))

    pub survey_turn : SurveyTurn t s n sets₀ p sets q x v
    survey_turn =
        record {
          above = inside;
          reads = omega (arith, inside);
          fits = rw (more_is, eq) (set_fits t (stands x) p before.started narrow);
          next =
              record {
                started = omega arith;
                within = omega arith;
                room = simp length-set (omega arith);
                rest = beyond_set (n * 9) sets₀ sets (q * 9 + x) more (omega (arith, inside)) before.rest;
                word = λ k y lk ly. rw (add-one p) (survey_more k y lk ly (ℕ_discrete k q) (ℕ_discrete y x));
              };
        }

-- before the first turn: all words are 0
pub surveyed_root :
    (t s : List ℕ) (n : ℕ) (sets : List ℕ) → ((i : ℕ) → i < n * 9 → get_or sets i 0 ≡ 0) → (q x : ℕ) → q < n → x < 9
    → get_or sets (q * 9 + x) 0 ≡ set_before t 1 q (λ c. eqb (byte_at s c) x)
unfolding set_before children_before bits
surveyed_root t s n sets clear q x lq lx = clear (q * 9 + x) (omega arith)
