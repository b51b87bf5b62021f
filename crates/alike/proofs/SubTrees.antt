-- Tables that are alike, one of them a tree, have the same sub trees. Assumes nothing.
use Prim.Native.Nat.{ℕ, zero, suc, ◌<◌}
use native.Mathlib.Omega.{arith}
use mathlib.Core.Bool.{Bool, cond}
use mathlib.Core.Path.{◌≡◌, refl, ◌∙◌, ap, ap₂}
use mathlib.Core.List.{List}
use Rattle.rules.specs.Lists.{highest}
use Rattle.rules.specs.Table.{plan_count, is_or_is_above}
use Rattle.rules.specs.SubTree.{last_descendant}
use Rattle.rules.proofs.Tree.{Tree}
use Rattle.alike.proofs.SamePlans.{above_as}
use Rattle.alike.proofs.Alike.{Alike, same_plans}

-- tests that agree have the same highest number that passes
same_highest : (f g : ℕ → Bool) (n : ℕ) → ((p : ℕ) → p < n → f p ≡ g p) → highest f n ≡ highest g n
unfolding highest
same_highest f g zero agree = refl
same_highest f g (suc k) agree =
    ap₂ (λ (b : Bool) (z : ℕ). cond b k z) (agree k (omega arith)) (same_highest f g k (λ p l. agree p (omega arith)))

module _ {t u : List ℕ} (a : Alike t u) (tree : Tree t) where
  pub same_last : (p : ℕ) → last_descendant u p ≡ last_descendant t p
  unfolding last_descendant
  same_last p =
      ap (highest (λ d. is_or_is_above u p d d)) a.plans
      ∙ same_highest (λ d. is_or_is_above u p d d) (λ d. is_or_is_above t p d d) (plan_count t) (λ d l. above_as (same_plans a) tree p d d l)
