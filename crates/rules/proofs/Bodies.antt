-- Laws of the nine bodies: their numbers tell them apart, and what holds of bodies 5 to 8 holds of every body of two children. Assumes
-- nothing.
use mathlib.Core.Path.{◌≡◌, refl, sym, ap, ◌∙◌}
use lib.Dec.{T, leb, eqb→eq}
use Rattle.rules.specs.Table.{body_number, numbered, is_body, of_two}
use Rattle.rules.specs.declared.Body.{Body}
use Rattle.rules.specs.declared.Body.TheVariants.{
  Leaf,
  Sequential,
  Parallel,
  AnyOrder,
  Unordered,
  OnAbort,
  OnSuspend,
  OnAbortOrSuspend,
  IfThenElse,
}

numbered_is : (body : Body) → numbered (body_number body) ≡ body
numbered_is Leaf = refl
numbered_is Sequential = refl
numbered_is Parallel = refl
numbered_is AnyOrder = refl
numbered_is Unordered = refl
numbered_is OnAbort = refl
numbered_is OnSuspend = refl
numbered_is OnAbortOrSuspend = refl
numbered_is IfThenElse = refl

pub body_is : (y body : Body) → T (is_body y body) → body ≡ y
body_is y body h =
    sym (numbered_is body) ∙ ap numbered (eqb→eq (body_number body) (body_number y) h) ∙ numbered_is y

-- a body of two by its number
pub from_five : (body : Body) → leb 5 (body_number body) ≡ of_two body
from_five Leaf = refl
from_five Sequential = refl
from_five Parallel = refl
from_five AnyOrder = refl
from_five Unordered = refl
from_five OnAbort = refl
from_five OnSuspend = refl
from_five OnAbortOrSuspend = refl
from_five IfThenElse = refl

pub of_two_lem :
    (P : Body → Type 0) → P OnAbort → P OnSuspend → P OnAbortOrSuspend → P IfThenElse → (body : Body) → T (of_two body) → P body
of_two_lem P abort suspend either branch Leaf h = absurd h
of_two_lem P abort suspend either branch Sequential h = absurd h
of_two_lem P abort suspend either branch Parallel h = absurd h
of_two_lem P abort suspend either branch AnyOrder h = absurd h
of_two_lem P abort suspend either branch Unordered h = absurd h
of_two_lem P abort suspend either branch OnAbort h = abort
of_two_lem P abort suspend either branch OnSuspend h = suspend
of_two_lem P abort suspend either branch OnAbortOrSuspend h = either
of_two_lem P abort suspend either branch IfThenElse h = branch
