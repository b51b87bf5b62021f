-- Check 11 passed: as many states as plans, and no plan that breaks a rule together with lower ones. Nobody has to believe
-- this. Assumes nothing.
use Rattle.std.specs.Prelude.{ℕ, ◌<◌, false, ◌≡◌, List, length}
use Rattle.rules.specs.Table.{plan_count}
use Rattle.rules.specs.HandedIn.{bad_state}

pub record PassesStates (t s : List ℕ) : Type 0 where
  pub long : length s ≡ plan_count t
  pub unbroken : (p : ℕ) → p < plan_count t → bad_state t s p ≡ false
