-- Laws of tests: `T b` says that the test b is true. Assumes nothing.
use mathlib.Core.Bool.{Bool, true, false, cond, not, ◌&&◌, ◌||◌}
use mathlib.Core.Path.{◌≡◌, refl}
use mathlib.Core.Logic.{◌⊎◌, inl, inr}
use lib.Dec.{T}

pub both : (a b : Bool) → T a → T b → T (a && b)
both true b h k = k
both false b h k = h

pub left : (a b : Bool) → T (a && b) → T a
left true b h = tt
left false b h = h

pub right : (a b : Bool) → T (a && b) → T b
right true b h = h
right false b h = absurd h

pub in_left : (a b : Bool) → T a → T (a || b)
in_left true b h = tt
in_left false b h = absurd h

pub in_right : (a b : Bool) → T b → T (a || b)
in_right true b h = tt
in_right false b h = h

pub either : (a b : Bool) → T (a || b) → T a ⊎ T b
either true b h = inl tt
either false b h = inr h

-- neither of two: not the first
pub neither : (a b : Bool) → T (not (a || b)) → T (not a)
neither true b h = h
neither false b h = tt

pub decide : (b : Bool) → T b ⊎ T (not b)
decide true = inl tt
decide false = inr tt

-- a test and its value
pub is_true : (b : Bool) → T b → b ≡ true
is_true true h = refl
is_true false h = absurd h

pub is_false : (b : Bool) → T (not b) → b ≡ false
is_false true h = absurd h
is_false false h = refl

-- what holds of both values holds of the one that a test selects
pub cond_by : {A : Type 0} (P : A → Type 0) (b : Bool) {x y : A} → (T b → P x) → (T (not b) → P y) → P (cond b x y)
cond_by P true f g = f tt
cond_by P false f g = g tt

-- where one test is passed, so is another
infixr 5 ◌⇒◌
abbrev pub ◌⇒◌ : Bool → Bool → Bool
a ⇒ b = not a || b

pub given : (a b : Bool) → T (a ⇒ b) → T a → T b
given true b h k = h
given false b h k = absurd k

pub given₂ : (a b c : Bool) → T (a ⇒ b ⇒ c) → T a → T b → T c
given₂ a b c h x = given b c (given a (b ⇒ c) h x)

pub arrow : (a b : Bool) → (T a → T b) → T (a ⇒ b)
arrow true b f = f tt
arrow false b f = tt
