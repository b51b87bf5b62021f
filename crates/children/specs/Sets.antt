-- Sets of children as words: bit r stands for the child of rank r. Assumes nothing.
use Rattle.std.specs.Prelude.{◌≡◌, List, [], ◌∷◌, map, Bool, cond, ℕ, ◌+◌, ◌*◌, ◌≤◌, ◌<◌, eqb, length, get_or}
use Rattle.rules.specs.Bytes.{byte_at}
use Rattle.rules.specs.Table.{plan_count, parent, children_before, rank}

-- the word whose bit r is the element r
unfoldable pub bits : List Bool → ℕ
bits [] = 0
bits (b ∷ bs) = cond b 1 0 + 2 * bits bs

-- the children of q among the first k plans that pass a test, as a word; and all of them
unfoldable pub set_before : List ℕ → ℕ → ℕ → (ℕ → Bool) → ℕ
unfolding bits
set_before t k q f = bits (map f (children_before t q k))

unfoldable pub set_of : List ℕ → ℕ → (ℕ → Bool) → ℕ
unfolding set_before
set_of t q f = set_before t (plan_count t) q f

-- a table whose first n plans have earlier parents
pub record Rooted (t : List ℕ) (n : ℕ) : Type 0 where
  pub small : n ≤ 256
  pub room : 8 + 8 * n ≤ length t
  pub down : (p : ℕ) → 0 < p → p < n → parent t p < p

-- a lent list that was written below n only
pub record Beyond (n : ℕ) (old new : List ℕ) : Type 0 where
  pub long : length new ≡ length old
  pub rest : (k : ℕ) → n ≤ k → get_or new k 0 ≡ get_or old k 0

-- the first k numbers of a list are 0
abbrev pub Empty : ℕ → List ℕ → Type 0
Empty k xs = (i : ℕ) → i < k → get_or xs i 0 ≡ 0

-- the first n bytes are codes of states
abbrev pub Codes : ℕ → List ℕ → Type 0
Codes n s = (p : ℕ) → p < n → byte_at s p < 9

-- the ranks of the first n plans, and their numbers of children among these
pub record Ranked (t : List ℕ) (n : ℕ) (ranks counts : List ℕ) : Type 0 where
  pub ranked : (p : ℕ) → p < n → byte_at ranks p ≡ rank t p
  pub counted : (q : ℕ) → q < n → byte_at counts q ≡ length (children_before t q n)

-- the ranks of the first n plans, each below 64; there is a first
pub record Narrow (t : List ℕ) (n : ℕ) (ranks : List ℕ) : Type 0 where
  pub some : 0 < n
  pub ranked : (p : ℕ) → p < n → byte_at ranks p ≡ rank t p
  pub narrow : (p : ℕ) → p < n → rank t p < 64

-- a word for each of the first n plans: its children that pass a test
pub record Collected (t : List ℕ) (n : ℕ) (f : ℕ → Bool) (words : List ℕ) : Type 0 where
  pub word : (q : ℕ) → q < n → get_or words q 0 ≡ set_before t n q f

-- nine words for each of the first n plans: its children in each state
pub record Surveyed (t s : List ℕ) (n : ℕ) (sets : List ℕ) : Type 0 where
  pub word : (q x : ℕ) → q < n → x < 9 → get_or sets (q * 9 + x) 0 ≡ set_before t n q (λ c. eqb (byte_at s c) x)
