-- Laws of sets of children as words: what union, difference, count and the lowest digit are, and whom a rank belongs to.
-- Assumes nothing.
use mathlib.Core.Path.{◌≡◌, refl, sym, ap, ◌∙◌}
use mathlib.Core.List.{List, [], ◌∷◌, ◌++◌, map, map-map, append-nil, append_assoc}
use mathlib.Core.Bool.{Bool, true, false, cond, ◌&&◌, ◌||◌, not, false≢true}
use Prim.Native.Nat.{ℕ, zero, suc, ◌+◌, ◌-◌, ◌*◌, ◌^◌, ◌≤◌, ◌<◌, min}
use native.Mathlib.Decide.{ℕ_discrete, dec_lt, le_ind}
use native.Mathlib.Omega.{arith}
use lib.Bits.{bit_and, bit_or}
use lib.Count.{ones, count_trailing_zeros}
use lib.Dec.{T, eqb, eqb→eq, eqb-suc-zero}
use lib.ListN.{length, get_or, length-append, length-map, get_or-append, get_or-eq_default}
use lib.Seq.{get_or-append_seam}
use borrow.Author.Tests.{eq-eqb, ne_eqb}
use Rattle.rules.specs.Bytes.{is_set}
use Rattle.rules.specs.Lists.{some, count, first, no_plan}
use Rattle.rules.specs.Table.{plan_count, parent, is_child, children_before, children, first_child, second_child, rank}
use Rattle.rules.proofs.Digits.{bit}
use Rattle.children.specs.Sets.{bits, set_before, set_of}
use Rattle.children.proofs.Bits.{
  and_bits,
  or_bits,
  ones_bits,
  digit_bits,
  first_true,
  trailing_bits,
  trailing_not,
}
use Rattle.children.proofs.Kin.{children_own}

-- difference: what is in f but not in g
part_bit : (a b : Bool) → bit (a && not b) + bit (a && b) ≡ bit a
part_bit true true = refl
part_bit true false = refl
part_bit false b = refl

part_bits : (f g : ℕ → Bool) (l : List ℕ) → bits (map (λ c. f c && not (g c)) l) + bits (map (λ c. f c && g c) l) ≡ bits (map f l)
unfolding bits
part_bits f g [] = refl
part_bits f g (c ∷ l) = omega (arith, part_bits f g l, part_bit (f c) (g c))

-- the empty set is 0
none_by : (b : Bool) (n : ℕ) (others : Bool) → eqb n 0 ≡ not others → eqb (bit b + 2 * n) 0 ≡ not (b || others)
none_by true n others e = ne_eqb (1 + 2 * n) 0 (λ z. omega arith)
none_by false zero others e = e
none_by false (suc n) others e = ne_eqb (0 + 2 * suc n) 0 (λ z. omega arith) ∙ sym (eqb-suc-zero n) ∙ e

none_bits : (f : ℕ → Bool) (l : List ℕ) → eqb (bits (map f l)) 0 ≡ not (some f l)
unfolding bits
none_bits f [] = refl
none_bits f (c ∷ l) = none_by (f c) (bits (map f l)) (some f l) (none_bits f l)

-- the first that passes a test, by its index
first_at : (f : ℕ → Bool) (l : List ℕ) → first f l ≡ get_or l (first_true (map f l)) no_plan
unfolding first_true
first_at f [] = refl
first_at f (c ∷ l) = go (f c) refl (first_at f l)
  where
    go :
        (b : Bool) → f c ≡ b → first f l ≡ get_or l (first_true (map f l)) no_plan
        → first f (c ∷ l) ≡ get_or (c ∷ l) (first_true (map f (c ∷ l))) no_plan
    go true e rest = rw e
    go false e rest = rw e rest

-- below n, a number is as good as the lesser of it and n
below_min : (r z n : ℕ) → r < n → eqb r z ≡ eqb r (min z n)
below_min r z n h = go (ℕ_discrete r z)
  where
    go : Dec (r ≡ z) → eqb r z ≡ eqb r (min z n)
    go (yes e) = eq-eqb r z e ∙ sym (eq-eqb r (min z n) (omega arith))
    go (no ne) = ne_eqb r z ne ∙ sym (ne_eqb r (min z n) (λ e. ne (omega arith)))

-- the element at an index where it passes a test, else another
cond_same : (b : Bool) (d : ℕ) → cond b d d ≡ d
cond_same true d = refl
cond_same false d = refl

abbrev pub passing : (ℕ → Bool) → List ℕ → ℕ → ℕ → ℕ
passing f l k d = cond (f (get_or l k d)) (get_or l k d) d

passing_true : (f : ℕ → Bool) (l : List ℕ) (k d : ℕ) → get_or (map f l) k false ≡ true → passing f l k d ≡ get_or l k no_plan
passing_true f [] k d e = absurd (false≢true e)
passing_true f (c ∷ l) zero d e = rw e
passing_true f (c ∷ l) (suc k) d e = passing_true f l k d e

passing_false : (f : ℕ → Bool) (l : List ℕ) (k d : ℕ) → get_or (map f l) k false ≡ false → passing f l k d ≡ d
passing_false f [] k d e = cond_same (f d) d
passing_false f (c ∷ l) zero d e = rw e
passing_false f (c ∷ l) (suc k) d e = passing_false f l k d e

-- two of them
two_bits :
    (f : ℕ → Bool) (l : List ℕ) → length l ≡ 2 → bits (map f l) ≡ bit (f (get_or l 0 no_plan)) + 2 * bit (f (get_or l 1 no_plan))
unfolding bits
two_bits f [] e = absurd (omega arith)
two_bits f (c ∷ []) e = absurd (omega arith)
two_bits f (c ∷ d ∷ []) e = omega arith
two_bits f (c ∷ d ∷ b ∷ l) e = absurd (omega arith)

-- the words of plan q's children
module _ (t : List ℕ) (q : ℕ) where
  set_is : (f : ℕ → Bool) → set_of t q f ≡ bits (map f (children t q))
  unfolding set_of set_before children
  set_is f = refl

  pub set_or : (f g : ℕ → Bool) → bit_or (set_of t q f) (set_of t q g) ≡ set_of t q (λ c. f c || g c)
  set_or f g = simp set_is (or_bits f g (children t q))

  pub set_and : (f g : ℕ → Bool) → bit_and (set_of t q f) (set_of t q g) ≡ set_of t q (λ c. f c && g c)
  set_and f g = simp set_is (and_bits f g (children t q))

  pub set_less : (f g : ℕ → Bool) → set_of t q f - bit_and (set_of t q f) (set_of t q g) ≡ set_of t q (λ c. f c && not (g c))
  set_less f g = simp (set_is, and_bits) (omega (arith, part_bits f g (children t q)))

  pub set_ones : (f : ℕ → Bool) → ones (set_of t q f) ≡ count f (children t q)
  set_ones f = rw (set_is f) (ones_bits f (children t q))

  pub set_none : (f : ℕ → Bool) → eqb (set_of t q f) 0 ≡ not (some f (children t q))
  set_none f = rw (set_is f) (none_bits f (children t q))

  -- of two children
  pub set_two : (f : ℕ → Bool) → length (children t q) ≡ 2 → set_of t q f ≡ bit (f (first_child t q)) + 2 * bit (f (second_child t q))
  set_two f two = rw (set_is f) (two_bits f (children t q) two)

  -- by a digit: the child of a rank where it passes, else another
  set_digit : (f : ℕ → Bool) (r : ℕ) → is_set r (set_of t q f) ≡ get_or (map f (children t q)) r false
  set_digit f r = rw (set_is f) (digit_bits (map f (children t q)) r)

  pub set_passing :
      (f : ℕ → Bool) (r d : ℕ) → is_set r (set_of t q f) ≡ true
      → passing f (children t q) r d ≡ get_or (children t q) r no_plan
  set_passing f r d e = passing_true f (children t q) r d (sym (set_digit f r) ∙ e)

  pub set_not_passing : (f : ℕ → Bool) (r d : ℕ) → is_set r (set_of t q f) ≡ false → passing f (children t q) r d ≡ d
  set_not_passing f r d e = passing_false f (children t q) r d (sym (set_digit f r) ∙ e)

-- Whom a rank belongs to.
module _ (t : List ℕ) where
  -- the children below m begin with those below k
  children_prefix : (q k m : ℕ) → k ≤ m → (rest : List ℕ) × (children_before t q m ≡ children_before t q k ++ rest)
  unfolding children_before
  children_prefix q k m h =
      le_ind (λ (m : ℕ). (rest : List ℕ) × (children_before t q m ≡ children_before t q k ++ rest))
      ([], sym (append-nil (children_before t q k)))
      (λ m l more. (
        more.0 ++ cond (is_child t q m) (m ∷ []) [],
        ap (λ (l : List ℕ). l ++ cond (is_child t q m) (m ∷ []) []) more.1
            ∙ append_assoc (children_before t q k) more.0 (cond (is_child t q m) (m ∷ []) []),
      ))
      m h

  is_later : (q p : ℕ) → T (is_child t q p) → 0 < p
  is_later q zero h = absurd h
  is_later q (suc p) h = omega arith

  has_parent : (q p : ℕ) → T (is_child t q p) → parent t p ≡ q
  has_parent q zero h = absurd h
  has_parent q (suc p) h = eqb→eq _ _ h

  rank_of : (q p : ℕ) → T (is_child t q p) → rank t p ≡ length (children_before t q p)
  unfolding rank
  rank_of q p h = ap (λ (k : ℕ). length (children_before t k p)) (has_parent q p h)

  -- a child stands behind the children before it
  children_split :
      (q p : ℕ) → T (is_child t q p) → p < plan_count t → (rest : List ℕ) × (children t q ≡ children_before t q p ++ p ∷ rest)
  unfolding children
  children_split q p h l =
      let more = children_prefix q (suc p) (plan_count t) l in (
        more.0,
        more.1
            ∙ ap (λ (l : List ℕ). l ++ more.0) (children_own t q p (is_later q p h) (has_parent q p h))
            ∙ append_assoc (children_before t q p) (p ∷ []) more.0,
      )

  -- a child's rank is below the number of children, and the child of that rank is the child
  pub rank_lt : (q p : ℕ) → T (is_child t q p) → p < plan_count t → rank t p < length (children t q)
  rank_lt q p h l =
      let split = children_split q p h l in
      rw (rank_of q p h, split.1) (simp length-append (omega arith))

  at_rank : (q p : ℕ) → T (is_child t q p) → p < plan_count t → get_or (children t q) (rank t p) no_plan ≡ p
  at_rank q p h l =
      let split = children_split q p h l in
      rw (rank_of q p h, split.1) (get_or-append_seam (children_before t q p) p split.0 no_plan)

  -- the rank of the child at an index is the index
  rank_by :
      (q k i : ℕ) (b : Bool) → is_child t q k ≡ b → i < length (children_before t q k ++ cond b (k ∷ []) [])
      → (i < length (children_before t q k) → rank t (get_or (children_before t q k) i no_plan) ≡ i)
      → Dec (i < length (children_before t q k))
      → rank t (get_or (children_before t q k ++ cond b (k ∷ []) []) i no_plan) ≡ i
  rank_by q k i b e h before (yes l) = rw (get_or-append (children_before t q k) (cond b (k ∷ []) []) no_plan i l) (before l)
  rank_by q k i true e h before (no g) =
      let last : i ≡ length (children_before t q k) = omega (arith, length-append (children_before t q k) (k ∷ [])) in
      rw (last, get_or-append_seam (children_before t q k) k [] no_plan) (rank_of q k (rw e tt))
  rank_by q k i false e h before (no g) = absurd (g (rw (append-nil (children_before t q k)) at h))

  rank_before : (q k i : ℕ) → i < length (children_before t q k) → rank t (get_or (children_before t q k) i no_plan) ≡ i
  unfolding children_before
  rank_before q zero i h = absurd (omega arith)
  rank_before q (suc k) i h =
      rank_by q k i (is_child t q k) refl h (rank_before q k i) (dec_lt i (length (children_before t q k)))

  rank_at : (q i : ℕ) → i < length (children t q) → rank t (get_or (children t q) i no_plan) ≡ i
  unfolding children
  rank_at q i h = rank_before q (plan_count t) i h

-- a child p of q
module _ (t : List ℕ) (small : plan_count t ≤ 256) (q p : ℕ) (child : T (is_child t q p)) (within : p < plan_count t) where
  -- p is the child at an index, if and only if that is p's rank
  only_at : (k : ℕ) → p ≡ get_or (children t q) k no_plan → Dec (k < length (children t q)) → rank t p ≡ k
  only_at k e (yes l) = ap (rank t) e ∙ rank_at t q k l
  only_at k e (no g) = absurd (omega (arith, e, get_or-eq_default (children t q) no_plan {n = k} (omega arith)))

  pub ranked_at : (k : ℕ) → eqb (rank t p) k ≡ eqb p (get_or (children t q) k no_plan)
  ranked_at k = go (ℕ_discrete (rank t p) k)
    where
      go : Dec (rank t p ≡ k) → eqb (rank t p) k ≡ eqb p (get_or (children t q) k no_plan)
      go (yes e) =
          eq-eqb _ _ e
          ∙ sym (eq-eqb _ _ (sym (at_rank t q p child within) ∙ ap (λ (i : ℕ). get_or (children t q) i no_plan) e))
      go (no ne) = ne_eqb _ _ ne ∙ sym (ne_eqb _ _ (λ e. ne (only_at k e (dec_lt k (length (children t q))))))

  -- p is the first child that passes a test, if and only if its rank is the index of the first that does
  ranked_first : (f : ℕ → Bool) → eqb (rank t p) (first_true (map f (children t q))) ≡ eqb p (first f (children t q))
  ranked_first f = ranked_at _ ∙ ap (eqb p) (sym (first_at f (children t q)))

  -- by trailing zeros: those of the empty set, or of a full one's complement, are no child's rank
  module _ (few : length (children t q) ≤ 64) (f : ℕ → Bool) where
    short : length (map f (children t q)) ≤ 64
    short = simp length-map few

    pub set_first : eqb (rank t p) (count_trailing_zeros 64 (set_of t q f)) ≡ eqb p (first f (children t q))
    set_first =
        rw (set_is t q f)
        (below_min (rank t p) (count_trailing_zeros 64 (bits (map f (children t q)))) (length (map f (children t q)))
        (simp length-map (rank_lt t q p child within))
        ∙ ap (eqb (rank t p)) (trailing_bits 64 (map f (children t q)) short)
        ∙ ranked_first f)

    pub set_first_not :
        eqb (rank t p) (count_trailing_zeros 64 (2 ^ 64 - 1 - set_of t q f)) ≡ eqb p (first (λ c. not (f c)) (children t q))
    set_first_not =
        rw (set_is t q f)
        (ap (eqb (rank t p)) (trailing_not 64 (map f (children t q)) short ∙ ap first_true (map-map not f (children t q)))
        ∙ ranked_first (λ c. not (f c)))
