-- Document 01, 'Rest', with the causes of document 02 (ix): running by a rule under held words. The budget is a 16-bit number. Assumes
-- nothing.
use Prim.Native.Nat.{ℕ, zero, suc}
use Rattle.std.specs.Prelude.{Bool, List, Option, Some, None}
use Rattle.std.proofs.Math.ListN.{replicate}
use Rattle.rules.specs.Lists.{same, least}
use Rattle.rules.specs.Table.{plan_count}
use Rattle.rules.specs.Step.{step, causes}

module _ (rule : ℕ) (t s w : List ℕ) where
  -- the states after k steps
  unfoldable pub after : ℕ → List ℕ
  after zero = s
  after (suc k) = step rule t (after k) w

  -- after k steps one more changes nothing
  abbrev pub settled : ℕ → Bool
  settled k = same (step rule t (after k) w) (after k)

  -- the least such k up to the budget, if there is one
  unfoldable pub least_rest : ℕ → Option ℕ
  unfolding after
  least_rest budget = least settled (suc budget)

  -- how many steps a run takes: that k, or the whole budget
  abbrev pub steps_taken : ℕ → ℕ
  steps_taken budget = elim (least_rest budget) [ Some k ↦ k | None ↦ budget ]

  -- the causes that k steps leave: the last one's, all 0 if there is none
  unfoldable pub last_causes : ℕ → List ℕ
  unfolding after causes
  last_causes zero = replicate (plan_count t) 0
  last_causes (suc k) = causes rule t (after k) w
