-- Document 01: the sub tree question. Assumes nothing.
use Rattle.std.specs.Prelude.{ℕ, suc, ◌-◌, ◌&&◌, length, take, drop}
use Rattle.std.proofs.Math.Bool.{cond}
use mathlib.Core.List.{List, []}
use Rattle.std.proofs.Math.Dec.{eqb, ltb}
use Rattle.rules.specs.Lists.{highest}
use Rattle.rules.specs.Table.{plan_count, is_or_is_above}
use Rattle.rules.specs.Answers.{is_done, table_check}

module _ (t : List ℕ) where
  -- the last descendant of plan p, or p itself if it has none
  unfoldable pub last_descendant : ℕ → ℕ
  unfolding highest is_or_is_above
  last_descendant p = highest (λ d. is_or_is_above t p d d) (plan_count t)

  -- from the plan through its last descendant; empty for a refused table, a wrong length, or a plan not below n
  unfoldable pub sub_tree : List ℕ → ℕ → List ℕ
  unfolding last_descendant
  sub_tree s p =
      cond (is_done (table_check t) && eqb (length s) (plan_count t) && ltb p (plan_count t))
      (take (suc (last_descendant p) - p) (drop p s))
      []
