-- Document 02 (x): a plan's state as a call lends it, of eight bytes: the state, three zero bytes, and the 32-bit number of the step that
-- last entered Activated from Ready or Suspended, 0 if none. The layout is said here and nowhere else: demands 2 and 3, records and all
-- other definitions speak of states of one byte, which `states_in` takes out. Assumes nothing.
use Rattle.std.specs.Prelude.{ℕ, zero, suc, ◌+◌, ◌*◌, ◌/◌, ◌%◌, ◌^◌, Bool, cond, not, ◌&&◌, ◌||◌, List, [], ◌∷◌, eqb}
use Rattle.rules.specs.Lists.{map_below, join_below}
use Rattle.rules.specs.Bytes.{byte_at, u32_at}
use Rattle.rules.specs.States.{state_of, is}
use Rattle.rules.specs.Table.{plan_count}
use Rattle.rules.specs.Step.{step}
use Rattle.rules.specs.declared.PlanState.{PlanState}
use Rattle.rules.specs.declared.PlanState.TheVariants.{Ready, Activated, Suspended}

-- The eight bytes of plan p among those of all plans, z.
module _ (z : List ℕ) (p : ℕ) where
  -- the state
  abbrev pub state_byte : ℕ
  state_byte = byte_at z (8 * p)

  -- one of the three bytes behind it, which are there to fill, is not 0
  abbrev pub filled : Bool
  filled = not (eqb (byte_at z (8 * p + 1)) 0) || not (eqb (byte_at z (8 * p + 2)) 0) || not (eqb (byte_at z (8 * p + 3)) 0)

  -- the stored number
  abbrev pub since_at : ℕ
  since_at = u32_at z (8 * p + 4)

-- the states of n plans, a byte each
unfoldable pub states_in : ℕ → List ℕ → List ℕ
unfolding map_below
states_in n z = map_below (state_byte z) n

-- the eight bytes of a plan with a state and a number
abbrev pub eight_bytes : ℕ → ℕ → List ℕ
eight_bytes state since =
    state ∷ 0 ∷ 0 ∷ 0 ∷ since % 256 ∷ since / 256 % 256 ∷ since / 2 ^ 16 % 256 ∷ since / 2 ^ 24 % 256 ∷ []

-- a plan enters Activated from Ready or Suspended
abbrev pub enters : PlanState → PlanState → Bool
enters old new = (is Ready old || is Suspended old) && is Activated new

-- the number that a plan has stored after a step with this number, by its states before and after it and what it had stored before:
-- nothing else changes that, and nothing clears it
abbrev pub since_after : ℕ → PlanState → PlanState → ℕ → ℕ
since_after number old new since = cond (enters old new) number since

-- the bytes of n plans after a step with this number that leads from z to the states `new`, which are of a byte each
unfoldable pub stamped : ℕ → List ℕ → List ℕ → ℕ → List ℕ
unfolding join_below
stamped n z new number =
    join_below (λ p. let state : ℕ = byte_at new p in
    eight_bytes state (since_after number (state_of (state_byte z p)) (state_of state) (since_at z p))) n

-- the states of the plans of a table, a byte each: what demands 2 and 3 read
abbrev pub plain_states : List ℕ → List ℕ → List ℕ
plain_states t z = states_in (plan_count t) z

-- by a rule, the bytes after one step from z under the words w, with this number
unfoldable pub stored_step : ℕ → List ℕ → List ℕ → List ℕ → ℕ → List ℕ
unfolding states_in stamped step
stored_step rule t z w number = stamped (plan_count t) z (step rule t (plain_states t z) w) number

-- the bytes after k steps that are numbered upward from the first on
unfoldable pub stored_after : ℕ → List ℕ → List ℕ → List ℕ → ℕ → ℕ → List ℕ
unfolding stored_step
stored_after rule t z w first zero = z
stored_after rule t z w first (suc k) = stored_step rule t (stored_after rule t z w first k) w (first + k)
