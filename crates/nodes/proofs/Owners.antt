-- Laws of owners, the plans in whose formulas nodes stand, as two passes find them, and of what checks 22 and 9 answer by them.
-- Assumes nothing.
use Prim.Native.Nat.{ℕ, zero, suc, ◌+◌, ◌≤◌, ◌<◌, min}
use native.Mathlib.Omega.{arith}
use native.Mathlib.Numerals.{add-one}
use native.Mathlib.Decide.{ℕ_discrete}
use mathlib.Core.Path.{◌≡◌, refl, sym, ap, subst, ◌∙◌}
use mathlib.Core.Bool.{Bool, true, false, cond, not, ◌&&◌, ◌||◌, true≢false, or-true, or-false}
use mathlib.Core.List.{List, [], ◌∷◌}
use lib.Count.{ones}
use lib.Dec.{eqb, leb, ltb}
use lib.ListN.{length, get_or, set, length-set}
use lib.Seq.{get_or-set_same, get_or-set_other}
use borrow.Author.Tests.{eq-eqb, ne_eqb, leb-true, leb-false, ltb-true, ltb-false, lt-ltb, le-ltb}
use Rattle.rules.specs.Bytes.{byte_at}
use Rattle.rules.specs.Lists.{some, some_below, highest, least}
use Rattle.rules.specs.Table.{plan_count, entry, named, children}
use Rattle.rules.specs.WaitFor.{asks, operands, is_leaf, node_count, node, uses_node, begins_with, first_nodes, asked_nodes, owner_within, owner}
use Rattle.rules.specs.Answers.{◌and_then◌, refuse_at, too_many, stray_first, bad_bytes, bad_node, bad_rank, bad_wait, asks_too_many, formulas_check, Outcome}
use Rattle.rules.specs.declared.Node.{Node}
use Rattle.rules.specs.declared.Asks.{Asks}
use Rattle.rules.specs.declared.Asks.TheVariants.{Child, Not, Join, AtLeast}
use Rattle.rules.specs.declared.Joint.TheVariants.{And, Or, Xor}
use Rattle.rules.specs.declared.Refusal.TheVariants.{Formula}
use Rattle.rules.proofs.Least.{nowhere}
use Rattle.rules.proofs.Below.{none_below, none_true}
use Rattle.rules.proofs.Outcomes.{pass, stop, pass_at, stop_at, then_stops}
use Rattle.children.specs.Sets.{Empty, set_of}
use Rattle.children.proofs.Sets.{set_ones}
use Rattle.lowest.specs.Lowest.{Lowest}
use Rattle.lowest.proofs.Lowest.{lowest_is, lowest_as, lower, lowest_either}
use Rattle.nodes.specs.Checking.{HasNodes, Uses, bad_operands, FirstOwners, owned_each, Owners, asks_beyond, asks_more, asking, asking_plan}
use Rattle.std.proofs.Common.{add-zero, zero-add}
use Rattle.std.specs.Prelude.{Option, Err, Some, None, filter_map, fold}
use Rattle.std.specs.List.{range_with_len, reduce}
use Rattle.std.specs.Option.{MatchOption}

-- the highest number that is found is below those looked through
bounded : (b : Bool) (n x : ℕ) → x ≤ n → cond b n x ≤ n
bounded true n x h = omega arith
bounded false n x h = h

highest_le : (f : ℕ → Bool) (n : ℕ) → highest f n ≤ n
unfolding highest
highest_le f zero = omega arith
highest_le f (suc n) = omega (arith, bounded (f n) n (highest f n) (highest_le f n))

highest_lt : (f : ℕ → Bool) (n : ℕ) → 0 < n → highest f n < n
unfolding highest
highest_lt f zero h = absurd (omega arith)
highest_lt f (suc n) h = omega (arith, bounded (f n) n (highest f n) (highest_le f n))

-- one of two that are below n
cond_lt : (b : Bool) (x y n : ℕ) → x < n → y < n → cond b x y < n
cond_lt true x y n h h' = h
cond_lt false x y n h h' = h'

module _ (t : List ℕ) where
  -- how far up is looked does not matter, if it is far enough
  owner_zero : (k : ℕ) → owner_within t k 0 ≡ highest (begins_with t 0) (plan_count t)
  unfolding owner_within some_below
  owner_zero zero = refl
  owner_zero (suc k) = refl

  far_enough : (k k' j : ℕ) → j ≤ k → j ≤ k' → owner_within t k j ≡ owner_within t k' j
  unfolding owner_within
  far_enough zero k' zero h h' = sym (owner_zero k')
  far_enough zero k' (suc j) h h' = absurd (omega arith)
  far_enough (suc k) k' zero h h' = owner_zero (suc k) ∙ sym (owner_zero k')
  far_enough (suc k) zero (suc j) h h' = absurd (omega arith)
  far_enough (suc k) (suc k') (suc j) h h' =
      let user = highest (uses_node t (suc j)) (suc j) in
      let near : user < suc j = highest_lt (uses_node t (suc j)) (suc j) (omega arith) in
      ap (λ (x : ℕ). cond (some_below (uses_node t (suc j)) (suc j)) x (highest (begins_with t (suc j)) (plan_count t)))
      (far_enough k k' user (omega arith) (omega arith))

  -- the owner of node j, as far as the first i nodes tell: in the end all below j, which alone can ask it
  abbrev pub owner_by : ℕ → ℕ → ℕ
  owner_by i j =
      cond (some_below (uses_node t j) i) (owner t (highest (uses_node t j) i)) (highest (begins_with t j) (plan_count t))

  pub owner_by_lem : (j : ℕ) → owner_by j j ≡ owner t j
  unfolding owner owner_within some_below
  owner_by_lem zero = refl
  owner_by_lem (suc j) =
      let user = highest (uses_node t (suc j)) (suc j) in
      let near : user < suc j = highest_lt (uses_node t (suc j)) (suc j) (omega arith) in
      ap (λ (x : ℕ). cond (some_below (uses_node t (suc j)) (suc j)) x (highest (begins_with t (suc j)) (plan_count t)))
      (far_enough user j user (omega arith) (omega arith))

  -- one more node
  by_more : (i j : ℕ) (b : Bool) → uses_node t j i ≡ b → owner_by (suc i) j ≡ cond b (owner t i) (owner_by i j)
  unfolding some_below highest
  by_more i j true e = rw e (simp or-true)
  by_more i j false e = rw e (simp or-false)

  -- an owner is a plan
  within_lt : 0 < plan_count t → (k j : ℕ) → owner_within t k j < plan_count t
  unfolding owner_within
  within_lt h zero j = highest_lt (begins_with t j) (plan_count t) h
  within_lt h (suc k) j =
      cond_lt (some_below (uses_node t j) j) _ _ _ (within_lt h k (highest (uses_node t j) j)) (highest_lt (begins_with t j) (plan_count t) h)

  owner_lt : 0 < plan_count t → (j : ℕ) → owner t j < plan_count t
  unfolding owner
  owner_lt h j = within_lt h j j

-- what is read after some nodes have become a plan's, and that it leaves the length
same_either : (b : Bool) (v : ℕ) → cond b v v ≡ v
same_either true v = refl
same_either false v = refl

owned_at :
    (js xs : List ℕ) (v j : ℕ) → j < length xs → byte_at (owned_each xs v js) j ≡ cond (some (eqb j) js) v (byte_at xs j)
owned_at [] xs v j h = refl
owned_at (a ∷ more) xs v j h = owned_at more (set xs a v) v j (omega (arith, length-set xs a v)) ∙ go (ℕ_discrete j a)
  where
    go : Dec (j ≡ a) → cond (some (eqb j) more) v (byte_at (set xs a v) j) ≡ cond (eqb j a || some (eqb j) more) v (byte_at xs j)
    go (yes e) = rw (eq-eqb j a e, ← e) (ap (cond (some (eqb j) more) v) (get_or-set_same xs j v 0 h) ∙ same_either (some (eqb j) more) v)
    go (no ne) = rw (ne_eqb j a ne) (ap (cond (some (eqb j) more) v) (get_or-set_other xs a j v 0 ne))

owned_length : (js xs : List ℕ) (v : ℕ) → length (owned_each xs v js) ≡ length xs
owned_length [] xs v = refl
owned_length (a ∷ more) xs v = owned_length more (set xs a v) v ∙ length-set xs a v

-- the code compares the other way round
pub eqb_swap : (a b : ℕ) → eqb a b ≡ eqb b a
eqb_swap a b = go (ℕ_discrete a b)
  where
    go : Dec (a ≡ b) → eqb a b ≡ eqb b a
    go (yes e) = eq-eqb a b e ∙ sym (eq-eqb b a (sym e))
    go (no ne) = ne_eqb a b ne ∙ sym (ne_eqb b a (λ e. ne (sym e)))

-- a good node uses none up to itself: this is why its owner is known when its turn comes
none_in : (f g : ℕ → Bool) (l : List ℕ) → ((o : ℕ) → f o ≡ false → g o ≡ false) → some f l ≡ false → some g l ≡ false
none_in f g [] h e = refl
none_in f g (o ∷ l) h e = go (f o) refl e (none_in f g l h)
  where
    go : (b : Bool) → f o ≡ b → (b || some f l) ≡ false → (some f l ≡ false → some g l ≡ false) → (g o || some g l) ≡ false
    go true is e rest = absurd (true≢false e)
    go false is e rest = rw (h o is) (rest e)

not_up_to : (i k j o : ℕ) → j ≤ i → (leb o i || leb k o) ≡ false → eqb j o ≡ false
not_up_to i k j o h e = go (leb o i) refl e
  where
    go : (b : Bool) → leb o i ≡ b → (b || leb k o) ≡ false → eqb j o ≡ false
    go true is e = absurd (true≢false e)
    go false is e = ne_eqb j o (λ q. omega (arith, leb-false o i is))

uses_above : (t : List ℕ) (i k j : ℕ) → bad_operands (asks (node t i)) i k ≡ false → j ≤ i → uses_node t j i ≡ false
uses_above t i k j good h = none_in (λ o. leb o i || leb k o) (eqb j) (operands (asks (node t i))) (λ o. not_up_to i k j o h) good

-- before the first pass nobody owns anything
pub no_owners : (t owners : List ℕ) → Empty 256 owners × (length owners ≡ 256) → FirstOwners t 0 owners
unfolding highest
no_owners t owners h = record { room = h.1; owned = λ j l. h.0 j l }

-- a turn of the first pass: the node that the formula of plan p begins with becomes p's
module _ (t : List ℕ) (p : ℕ) (owners : List ℕ) (before : FirstOwners t p owners) where
  abbrev firsts : Bool → List ℕ
  firsts leaf = cond leaf [] ((entry t p).wait ∷ [])

  begins : (leaf : Bool) → is_leaf t p ≡ leaf → (j : ℕ)
      → cond (some (eqb j) (firsts leaf)) p (highest (begins_with t j) p) ≡ highest (begins_with t j) (p + 1)
  unfolding highest
  begins true e j =
      rw (add-one p)
      (ap (λ (b : Bool). cond (not b && eqb (entry t p).wait j) p (highest (begins_with t j) p)) (sym e))
  begins false e j =
      rw (add-one p)
      (ap (λ (b : Bool). cond b p (highest (begins_with t j) p)) (or-false (eqb j (entry t p).wait) ∙ eqb_swap j (entry t p).wait)
      ∙ ap (λ (b : Bool). cond (not b && eqb (entry t p).wait j) p (highest (begins_with t j) p)) (sym e))

  first_turn : (leaf : Bool) → is_leaf t p ≡ leaf → FirstOwners t (p + 1) (owned_each owners p (firsts leaf))
  first_turn leaf e =
      record {
        room = owned_length (firsts leaf) owners p ∙ before.room;
        owned = λ j h.
            owned_at (firsts leaf) owners p j (omega (arith, before.room))
            ∙ ap (cond (some (eqb j) (firsts leaf)) p) (before.owned j h)
            ∙ begins leaf e j;
      }

  pub leaf_turn : is_leaf t p ≡ true → FirstOwners t (p + 1) owners
  leaf_turn e = first_turn true e

  pub parent_turn : is_leaf t p ≡ false → FirstOwners t (p + 1) (set owners (entry t p).wait p)
  parent_turn e = first_turn false e

-- the second pass, before node i: its owner and those before are known, later ones as far as these nodes tell
pub record Owning (t : List ℕ) (i : ℕ) (owners : List ℕ) : Type 0 where
  pub room : length owners ≡ 256
  pub known : (j : ℕ) → j < i → byte_at owners j ≡ owner t j
  pub later : (j : ℕ) → i ≤ j → j < 256 → byte_at owners j ≡ owner_by t i j

pub owning_first : (t : List ℕ) (n : ℕ) (owners : List ℕ) → n ≡ plan_count t → FirstOwners t n owners → Owning t 0 owners
unfolding some_below
owning_first t n owners whole first =
    record {
      room = first.room;
      known = λ j l. absurd (omega arith);
      later = λ j l h. first.owned j h ∙ ap (highest (begins_with t j)) whole;
    }

pub owning_last : (t : List ℕ) (k : ℕ) (owners : List ℕ) → k ≤ 256 → Owning t k owners → Owners t k owners
owning_last t k owners small last = record { room = omega (arith, last.room); owned = last.known }

-- a turn of the second pass: the operands of node i become its owner's
module _
    (t : List ℕ)
    (i k : ℕ)
    (small : i < 256)
    (good : bad_operands (asks (node t i)) i k ≡ false)
    (owners : List ℕ)
    (before : Owning t i owners)
  where
    abbrev holder : ℕ
    holder = byte_at owners i

    abbrev next : List ℕ
    next = owned_each owners holder (operands (asks (node t i)))

    own_is : holder ≡ owner t i
    own_is = before.later i (omega arith) small ∙ owner_by_lem t i

    written : (j : ℕ) → j < 256 → byte_at next j ≡ cond (uses_node t j i) (owner t i) (byte_at owners j)
    written j h =
        owned_at (operands (asks (node t i))) owners holder j (omega (arith, before.room))
        ∙ ap (λ (v : ℕ). cond (uses_node t j i) v (byte_at owners j)) own_is

    pub owning_turn : Owning t (i + 1) next
    owning_turn =
        rw (add-one i)
        record {
          room = owned_length (operands (asks (node t i))) owners holder ∙ before.room;
          known = λ j l. written j (omega arith) ∙ rw (uses_above t i k j good (omega arith)) (was j (ℕ_discrete j i) l);
          later = λ j l h. written j h ∙ rw (before.later j (omega arith) h) (sym (by_more t i j (uses_node t j i) refl));
        }
      where
        was : (j : ℕ) → Dec (j ≡ i) → j < suc i → byte_at owners j ≡ owner t j
        was j (yes q) l = rw q (before.later i (omega arith) small ∙ owner_by_lem t i)
        was j (no q) l = before.known j (omega arith)

-- a good node is of a kind, and its operands are good
first : (x y : Bool) → (x || y) ≡ false → x ≡ false
first true y h = absurd (true≢false h)
first false y h = refl

middle : (x y z : Bool) → (x || y || z) ≡ false → y ≡ false
middle true y z h = absurd (true≢false h)
middle false true z h = absurd (true≢false h)
middle false false z h = refl

few_kinds : (t : List ℕ) (i : ℕ) → bad_node t i ≡ false → (node t i).kind ≤ 5
unfolding bad_node bad_bytes
few_kinds t i h = ltb-false 5 (node t i).kind (first _ _ (first _ _ (first _ _ (first _ _ h))))

pub good_operands : (t : List ℕ) (k i : ℕ) → k ≡ node_count t → bad_node t i ≡ false → bad_operands (asks (node t i)) i k ≡ false
unfolding bad_node
good_operands t k i nodes h = rw nodes (middle (bad_bytes (node t i)) _ _ h)

-- tests, as the search for who asks for too many joins them
pub not_leb : (a b : ℕ) → not (leb a b) ≡ ltb b a
not_leb a b = go (leb a b) refl
  where
    go : (x : Bool) → leb a b ≡ x → not x ≡ ltb b a
    go true e = sym (le-ltb b a (leb-true a b e))
    go false e = sym (lt-ltb b a (leb-false a b e))

-- what a node asks, by its kind's number
by_kind :
    (P : ℕ → Asks → Type 0) (a b : ℕ)
    → P 0 (Child a) → P 1 (Not a) → P 2 (Join And a b) → P 3 (Join Or a b) → P 4 (Join Xor a b) → ((k : ℕ) → P (suc (suc (suc (suc (suc k))))) (AtLeast a))
    → (k : ℕ) → P k (get_or (Child a ∷ Not a ∷ Join And a b ∷ Join Or a b ∷ Join Xor a b ∷ []) k (AtLeast a))
by_kind P a b h₀ h₁ h₂ h₃ h₄ h₅ zero = h₀
by_kind P a b h₀ h₁ h₂ h₃ h₄ h₅ (suc zero) = h₁
by_kind P a b h₀ h₁ h₂ h₃ h₄ h₅ (suc (suc zero)) = h₂
by_kind P a b h₀ h₁ h₂ h₃ h₄ h₅ (suc (suc (suc zero))) = h₃
by_kind P a b h₀ h₁ h₂ h₃ h₄ h₅ (suc (suc (suc (suc zero)))) = h₄
by_kind P a b h₀ h₁ h₂ h₃ h₄ h₅ (suc (suc (suc (suc (suc k))))) = h₅ k

beyond_is : (e : Node) (c : ℕ) → asks_beyond (asks e) c ≡ (eqb e.kind 0 && leb c e.a)
beyond_is e c =
    by_kind (λ k asked. asks_beyond asked c ≡ (eqb k 0 && leb c e.a)) e.a e.b refl refl refl refl refl
    (λ k. ap (λ (b : Bool). b && leb c e.a) (sym (ne_eqb (suc (suc (suc (suc (suc k))))) 0 (λ q. omega arith)))) e.kind

more_is : (e : Node) → e.kind ≤ 5 → (names : ℕ) → asks_more (asks e) names ≡ (eqb e.kind 5 && not (leb e.a (ones names)))
more_is e few names =
    by_kind (λ k asked. k ≤ 5 → asks_more asked names ≡ (eqb k 5 && not (leb e.a (ones names)))) e.a e.b (λ l. refl) (λ l. refl) (λ l. refl)
    (λ l. refl)
    (λ l. refl)
    (λ k l. ap (λ (b : Bool). b && not (leb e.a (ones names))) (sym (eq-eqb (suc (suc (suc (suc (suc k))))) 5 (omega arith))))
    e.kind few

-- the lower of two, as the code takes it
lower_is : (r : Option ℕ) (o x : ℕ) → MatchOption r (x ≡ o) (λ q. x ≡ min q o) → lower r (Some o) ≡ Some x
lower_is None o x e = ap Some (sym e)
lower_is (Some q) o x e = ap Some (go (ltb q o) refl)
  where
    go : (less : Bool) → ltb q o ≡ less → cond less q o ≡ x
    go true l = omega (arith, e, ltb-true q o l)
    go false l = omega (arith, e, ltb-false q o l)

-- Of node i, when owners are known.
module _
    (t : List ℕ)
    (n k : ℕ)
    (nodes : HasNodes t n k)
    (owners : List ℕ)
    (known : Owners t k owners)
    (i : ℕ)
    (inside : i < k)
  where
    abbrev o : ℕ
    o = byte_at owners i

    pub owner_is : o ≡ owner t i
    owner_is = known.owned i inside

    pub owner_plan : o < n
    owner_plan = omega (arith, owner_is, nodes.whole, owner_lt t (omega (arith, nodes.some, nodes.whole)) i)

    -- what the search for a bad rank tests
    pub bad_rank_is :
        (counts : List ℕ) → ((q : ℕ) → q < n → byte_at counts q ≡ length (children t q))
        → asks_beyond (asks (node t i)) (byte_at counts o) ≡ bad_rank t i
    unfolding bad_rank
    bad_rank_is counts counted = beyond_is (node t i) _ ∙ rw (counted o owner_plan, owner_is) refl

    -- whether its owner asks for too many in node i, and in one of the nodes up to it
    module _
        (e : Node)
        (is : e ≡ node t i)
        (w : ℕ)
        (at : w ≡ byte_at owners i)
        (names : List ℕ)
        (collected : (q : ℕ) → q < n → get_or names q 0 ≡ set_of t q (λ c. named (entry t c)))
        (enough : Bool)
        (says : enough ≡ leb e.a (ones (get_or names w 0)))
      where
        here : w ≡ owner t i
        here = at ∙ owner_is

        many_is : not enough ≡ too_many t (owner t i) (node t i).a
        unfolding too_many
        many_is =
            ap not says
            ∙ not_leb e.a (ones (get_or names w 0))
            ∙ rw (collected w (omega (arith, at, owner_plan)), set_ones t w (λ c. named (entry t c)), is, here) refl

        asks_here : asks_too_many t w i ≡ (eqb e.kind 5 && not enough)
        unfolding asks_too_many
        asks_here = rw (many_is, is, here, eq-eqb (owner t i) (owner t i) refl) refl

        asking_here : asking t (suc i) w ≡ (asking t i w || (eqb e.kind 5 && not enough))
        unfolding some_below
        asking_here = ap (λ (b : Bool). asking t i w || b) asks_here

    -- and what the search for the lowest plan that asks for too many tests
    pub too_many_is :
        bad_node t i ≡ false → (names : List ℕ) → ((q : ℕ) → q < n → get_or names q 0 ≡ set_of t q (λ c. named (entry t c)))
        → asks_more (asks (node t i)) (get_or names o 0) ≡ asks_too_many t (owner t i) i
    too_many_is good names collected =
        more_is (node t i) (few_kinds t i good) (get_or names o 0)
        ∙ sym (asks_here (node t i) refl o refl names collected _ refl)
        ∙ ap (λ (p : ℕ). asks_too_many t p i) owner_is

    -- after node i the lowest plan that asks for too many is its owner, if that does and none below was found before
    asks_other : (p : ℕ) → (owner t i ≡ p → ⊥) → asks_too_many t p i ≡ false
    unfolding asks_too_many
    asks_other p ne = rw (ne_eqb (owner t i) p ne) refl

    asking_one :
        asks_too_many t (owner t i) i ≡ true → (r : Option ℕ) → Lowest (asking t i) n r
        → (x : ℕ) → MatchOption r (x ≡ owner t i) (λ q. x ≡ min q (owner t i)) → Lowest (asking t (i + 1)) n (Some x)
    unfolding some_below
    asking_one too_many r before x low =
        subst (Lowest (asking t (i + 1)) n) (lower_is r (owner t i) x low)
        (rw (add-one i)
        (lowest_either (asking t i) (λ p. asks_too_many t p i) n r (Some (owner t i)) before
        (omega (arith, owner_is, owner_plan), too_many, λ p l. asks_other p (λ e. omega arith))))

    asking_not : asks_too_many t (owner t i) i ≡ false → (r : Option ℕ) → Lowest (asking t i) n r → Lowest (asking t (i + 1)) n r
    unfolding some_below
    asking_not enough r before = rw (add-one i) (lowest_as (asking t i) (asking t (suc i)) n r (λ p. same p (ℕ_discrete (owner t i) p)) before)
      where
        same : (p : ℕ) → Dec (owner t i ≡ p) → asking t i p ≡ asking t (suc i) p
        same p (yes e) = sym (rw (ap (λ (q : ℕ). asks_too_many t q i) (sym e) ∙ enough) (or-false (asking t i p)))
        same p (no ne) = sym (rw (asks_other p ne) (or-false (asking t i p)))

-- before any node is looked at nobody asks
asking_none : (t : List ℕ) (n : ℕ) → Lowest (asking t 0) n None
unfolding some_below
asking_none t n = λ p l. refl

-- the lowest of the plans that ask for too many in the nodes from the first to the last is the lowest plan that does
module _ (t : List ℕ) (n k : ℕ) (nodes : HasNodes t n k) (owners : List ℕ) (known : Owners t k owners) where
  abbrev lowest_of : Option ℕ → List ℕ → Option ℕ
  lowest_of None ps = reduce min ps
  lowest_of (Some p) ps = Some (fold min p ps)

  asked_on :
      (j i : ℕ) → i + j ≤ k → (r : Option ℕ) → Lowest (asking t i) n r
      → Lowest (asking t (i + j)) n (lowest_of r (filter_map (asking_plan t) (range_with_len i j)))
  asked_on zero i l r before = rw (add-zero i) (ended r before)
    where
      ended : (r : Option ℕ) → Lowest (asking t i) n r → Lowest (asking t i) n (lowest_of r [])
      ended None b = b
      ended (Some p) b = b
  asked_on (suc j) i l r before = go (asks_too_many t (owner t i) i) refl (asked_on j (i + 1) (omega (arith, l)))
    where
      rest : List ℕ
      rest = filter_map (asking_plan t) (range_with_len (i + 1) j)

      Later : Type 0
      Later = (r : Option ℕ) → Lowest (asking t (i + 1)) n r → Lowest (asking t (i + 1 + j)) n (lowest_of r rest)

      met :
          (r : Option ℕ) → Lowest (asking t i) n r → asks_too_many t (owner t i) i ≡ true → Later
          → Lowest (asking t (i + 1 + j)) n (lowest_of r (owner t i ∷ rest))
      met None b e later = later (Some (owner t i)) (asking_one t n k nodes owners known i (omega (arith, l)) e None b (owner t i) refl)
      met (Some q) b e later =
          later (Some (min q (owner t i)))
          (asking_one t n k nodes owners known i (omega (arith, l)) e (Some q) b (min q (owner t i)) refl)

      goal : ℕ → Type 0
      goal m = Lowest (asking t m) n (lowest_of r (filter_map (asking_plan t) (range_with_len i (suc j))))

      on : i + 1 + j ≡ i + suc j
      on = omega arith

      go : (b : Bool) → asks_too_many t (owner t i) i ≡ b → Later → goal (i + suc j)
      go true e later = subst goal on (rw e (met r before e later))
      go false e later =
          subst goal on (rw e (later r (asking_not t n k nodes owners known i (omega (arith, l)) e r before)))

  pub asked_by : Lowest (asking t k) n (reduce min (filter_map (asking_plan t) (range_with_len 0 k)))
  asked_by = subst (λ (m : ℕ). Lowest (asking t m) n (reduce min (filter_map (asking_plan t) (range_with_len 0 k)))) (zero-add k)
      (asked_on k 0 (omega arith) None (asking_none t n))

-- a plan's wait is bad if a node asks for too many in its formula
wait_is : (t : List ℕ) (n k : ℕ) → HasNodes t n k → (p : ℕ) → bad_wait t p ≡ asking t k p
unfolding bad_wait
wait_is t n k nodes p = rw (nodes.second, nodes.nodes) refl

pub lowest_wait : (t : List ℕ) (n k : ℕ) (r : Option ℕ) → HasNodes t n k → Lowest (asking t k) n r → Lowest (bad_wait t) n r
lowest_wait t n k r nodes = lowest_as (asking t k) (bad_wait t) n r (λ p. sym (wait_is t n k nodes p))

-- before anything is counted no node is used
pub no_uses : (t buffer : List ℕ) → Empty 256 buffer → length buffer ≡ 256 → Uses t 0 0 buffer
unfolding first_nodes asked_nodes
no_uses t buffer empty room = record { room = room; used = λ j l. empty j l }

-- a search finds something if and only if there is something
least_some : (f : ℕ → Bool) (n : ℕ) (x : Option ℕ) → least f n ≡ x → some_below f n ≡ true → (p : ℕ) × (least f n ≡ Some p)
least_some f n None e h = absurd (true≢false (sym h ∙ none_below f n (nowhere f n e)))
least_some f n (Some p) e h = (p, e)

least_none : (f : ℕ → Bool) (n : ℕ) → some_below f n ≡ false → least f n ≡ None
least_none f n h = lowest_is f n None (none_true f n h)

-- Where check 22 stops, before a next check.
module _ (t : List ℕ) (n k : ℕ) (nodes : HasNodes t n k) (next : Outcome) where
  pub many_nodes : 256 < k → (formulas_check t and_then next) ≡ Err (Formula 0)
  unfolding formulas_check
  many_nodes l =
      then_stops (formulas_check t) next (Formula 0) (stop _ _ _ (lt-ltb 256 (node_count t) (omega (arith, nodes.nodes))))

  module _ (few : k ≤ 256) where
    few_nodes : ltb 256 (node_count t) ≡ false
    few_nodes = le-ltb 256 (node_count t) (omega (arith, nodes.nodes))

    pub stray_first_lem : some_below (stray_first t) n ≡ true → (formulas_check t and_then next) ≡ Err (Formula 0)
    unfolding formulas_check
    stray_first_lem h =
        let found = least_some (stray_first t) (plan_count t) _ refl (rw nodes.whole at h) in
        then_stops (formulas_check t) next (Formula 0) (pass _ _ _ few_nodes ∙ stop_at _ _ _ found.0 found.1)

    module _ (first : some_below (stray_first t) n ≡ false) where
      no_stray : least (stray_first t) (plan_count t) ≡ None
      no_stray = least_none (stray_first t) (plan_count t) (rw nodes.whole at first)

      pub bad_node_lem : (r : ℕ) → Lowest (bad_node t) k (Some r) → (formulas_check t and_then next) ≡ Err (Formula r)
      unfolding formulas_check
      bad_node_lem r lowest =
          then_stops (formulas_check t) next (Formula r)
          (pass _ _ _ few_nodes
          ∙ pass_at _ _ _ no_stray
          ∙ stop_at _ _ _ r (rw (← nodes.nodes) (lowest_is (bad_node t) k (Some r) lowest)))

      pub ranks_next :
          Lowest (bad_node t) k None → (answer : Outcome) → answer ≡ (refuse_at Formula (least (bad_rank t) k) and_then next)
          → answer ≡ (formulas_check t and_then next)
      unfolding formulas_check
      ranks_next lowest answer e =
          e
          ∙ ap (λ (o : Outcome). o and_then next)
          (sym
          (pass _ _ _ few_nodes
          ∙ pass_at _ _ _ no_stray
          ∙ pass_at _ _ _ (rw (← nodes.nodes) (lowest_is (bad_node t) k None lowest))
          ∙ ap (λ (j : ℕ). refuse_at Formula (least (bad_rank t) j)) (sym nodes.nodes)))
