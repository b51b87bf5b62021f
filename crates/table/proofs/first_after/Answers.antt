-- `first_after` meets its contract: its closure computes the test. Assumes nothing.
use Rattle.std.proofs.Common.{List, Option, Some, None, ◌≡◌, ◌<◌, ◌≤◌, ◌+◌, ℕ, true, false, rules, ◌∙◌, arith}
use lib.Dec.{ltb}
use native.Mathlib.Decide.{dec_lt}
use Rattle.std.specs.Option.{MatchOption}
use Rattle.std.proofs.lemmas.Iterator.{first_from_Range}
use Rattle.lowest.specs.Lowest.{Lowest}
use Rattle.rules.specs.Table.{parent}
use Rattle.table.specs.Facts.{outside}
use Rattle.table.proofs.Descendants.{behind, not_behind}
use Rattle.table.proofs.first_after.Goals as goal

-- a search that begins behind the plan finds the first that is outside
module _ (t : List ℕ) (plan n : ℕ) where
  abbrev Passed : ℕ → Type 0
  Passed m = (k : ℕ) → plan + 1 ≤ k → k < m → ltb (parent t k) plan ≡ false

  none_outside : (m : ℕ) → Passed m → (k : ℕ) → k < m → outside t plan k ≡ false
  none_outside m passed k l = go (dec_lt plan k)
    where
      go : Dec (plan < k) → outside t plan k ≡ false
      go (yes h) = behind t plan k h ∙ passed k (omega arith) l
      go (no h) = not_behind t plan k (omega arith)

  found :
      (r : Option ℕ) → MatchOption r (Passed n) (λ i. (plan + 1 ≤ i) × (i < n) × (ltb (parent t i) plan ≡ true) × Passed i)
      → Lowest (outside t plan) n r
  found None passed = none_outside n passed
  found (Some i) (after, l, out, passed) = (l, behind t plan i (omega arith) ∙ out, none_outside i passed)

pub returns : goal.returns
returns c =
    found _ _ _ _
    (first_from_Range _ _ _ _ (λ k. ltb (parent c.args.table.now k) c.args.plan ≡ true)
    (λ k. ltb (parent c.args.table.now k) c.args.plan ≡ false)
    c.find.ensures.ran
    (λ x q h. search rules)
    (λ x q h. search rules))
