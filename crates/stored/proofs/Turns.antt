-- The eight bytes, plan by plan: what a turn over one plan more adds. Assumes nothing.
use Prim.Native.Nat.{ℕ, ◌+◌, ◌*◌, ◌-◌, ◌≤◌, ◌<◌}
use native.Mathlib.Omega.{arith}
use native.Mathlib.Numerals.{add-one}
use mathlib.Core.Path.{◌≡◌, refl, sym, ap, ◌∙◌}
use mathlib.Core.List.{List}
use lib.ListN.{length, set}
use lib.Seq.{get_or-drop}
use Rattle.rules.specs.Lists.{map_below, join_below}
use Rattle.rules.specs.Bytes.{byte_at}
use Rattle.rules.specs.States.{state_of}
use Rattle.stored.specs.Stored.{state_byte, since_at, states_in, eight_bytes, since_after, stamped}
use Rattle.output.specs.Output.{Appended}
use Rattle.output.proofs.Pieces.{none_yet, and_then, and_byte, as_one}

-- the states of the first plans, copied
pub no_states : (z states : List ℕ) → Appended states 0 (states_in 0 z) states 0
unfolding states_in map_below
no_states z states = none_yet states 0

pub next_state :
    (z before states : List ℕ) (p : ℕ) → p < length states → Appended before 0 (states_in p z) states p
    → Appended before 0 (states_in (p + 1) z) (set states p (state_byte z p)) (p + 1)
unfolding states_in map_below
next_state z before states p l copied = as_one (and_byte copied (state_byte z p) l) (ap (λ k. states_in k z) (sym (add-one p)))

-- what a step leaves of the first plans, laid down
module _ (z new : List ℕ) (number : ℕ) where
  abbrev Laid : ℕ → List ℕ → Type 0
  Laid p stored = Appended z 0 (stamped p z new number) stored (8 * p)

  pub none_laid : Laid 0 z
  unfolding stamped join_below
  none_laid = none_yet z 0

  -- the plans that are still to come are as they were
  module _ (p : ℕ) (stored : List ℕ) (laid : Laid p stored) where
    unread : (i : ℕ) → 8 * p ≤ i → byte_at stored i ≡ byte_at z i
    unread i l =
        let e : 8 * p + (i - 8 * p) ≡ i = omega arith in
        let same =
        sym (get_or-drop (8 * p) stored (i - 8 * p) 0)
        ∙ ap (λ (l : List ℕ). byte_at l (i - 8 * p)) laid.rest
        ∙ get_or-drop (8 * p) z (i - 8 * p) 0 in
        rw e at same

    same_state : state_byte stored p ≡ state_byte z p
    same_state = unread (8 * p) (omega arith)

    same_since : since_at stored p ≡ since_at z p
    same_since =
        let at : ℕ = 8 * p + 4 in
        rw (unread at (omega arith), unread (at + 1) (omega arith), unread (at + 2) (omega arith), unread (at + 2 + 1) (omega arith)) refl

  pub next_laid :
      (p : ℕ) (stored after : List ℕ) (state end : ℕ) → Laid p stored → state ≡ byte_at new p
      → Appended stored (8 * p)
      (eight_bytes state (since_after number (state_of (state_byte stored p)) (state_of state) (since_at stored p))) after end
      → Laid (p + 1) after
  unfolding stamped join_below
  next_laid p stored after state end laid is put =
      let state₀ : ℕ = byte_at new p in
      let piece :
      eight_bytes state (since_after number (state_of (state_byte stored p)) (state_of state) (since_at stored p))
      ≡ eight_bytes state₀ (since_after number (state_of (state_byte z p)) (state_of state₀) (since_at z p)) =
      rw (is, same_state p stored laid, same_since p stored laid) refl in
      let next : end ≡ 8 * (p + 1) = omega (arith, put.place) in
      rw next at (as_one (and_then laid (as_one put piece)) (ap (λ k. stamped k z new number) (sym (add-one p))))
