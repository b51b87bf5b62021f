-- A part of a buffer that a reader has written. Assumes nothing.
use Rattle.std.proofs.Common.{◌≡◌, ℕ, ◌+◌, ◌≤◌, List, ◌++◌, Option, length, take, drop, sym, ap, ◌∙◌, subst, drop_at, length-take-le, le_refl}
use Rattle.std.proofs.lemmas.Slice.{take-put_mid_below}
use Rattle.std.proofs.KnownBytes.{Consumes-trans}
use Rattle.std.specs.Io.KnownBytes.{Consumes}
use borrow.Rule.Slice.PartMut.{put_mid, post_of}
use lib.Seq.{take-add, take-append-le}

-- the front of a buffer whose part from `a` on is written
front :
    (a k n : ℕ) (xs ys : List ℕ) → a ≤ length xs → n ≤ length ys → take a xs ++ take n ys ≡ take (a + n) (put_mid a k xs ys)
front a k n xs ys within fits =
    let after = post_of a k xs in
    let whole = take a xs ++ (ys ++ after) in
    sym
    (take-add a n whole
    ∙ ap (λ (l : List ℕ). l ++ take n (drop a whole)) (take-put_mid_below a k xs ys a (le_refl a) within)
    ∙ ap (λ (l : List ℕ). take a xs ++ take n l) (drop_at (take a xs) (ys ++ after) a (length-take-le a xs within))
    ∙ ap (λ (l : List ℕ). take a xs ++ l) (take-append-le n ys after fits))

-- what a reader gave, in two reads one behind the other
pub read_on :
    (before middle after : Option (List ℕ)) (a k n : ℕ) (xs ys : List ℕ) → a ≤ length xs → n ≤ length ys
    → Consumes before middle (take a xs)
    → Consumes middle after (take n ys)
    → Consumes before after (take (a + n) (put_mid a k xs ys))
read_on before middle after a k n xs ys within fits first second =
    subst (Consumes before after) (front a k n xs ys within fits) (Consumes-trans before middle after _ _ first second)
