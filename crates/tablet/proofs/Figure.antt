-- What a figure says of a run in C, as asbru.h tells it: where `asbru_bound` may answer plan 0 with step k, all `asbru_rest` may answer
-- of the same table and words, by either rule, with a budget of k or more and from states that it does not refuse, is plan 0 with a step
-- of at most k. Both contracts are taken as Rattle reads them. Assumes nothing.
use Prim.Native.Nat.{ℕ, ◌≤◌}
use mathlib.Core.Path.{◌≡◌, refl, ap, ◌∙◌}
use Rattle.rules.specs.Answers.{call_check, Done}
use Rattle.demands.specs.Bound.{RestsWithin}
use Rattle.tablet.specs.Packed.{packed, packed_rest}
use Rattle.tablet.proofs.asbru_rest.Reads as asbru_rest
use Rattle.tablet.proofs.asbru_bound.Reads as asbru_bound

pub figure_kept :
    (κs : _) (a : _) (z : ℕ) (e : _) → asbru_rest.Post κs a z e
    → (κs' : _) (a' : _) (k : ℕ) (e' : _) → asbru_bound.Post κs' a' (packed 0 k 0) e'
    → a'.0.now ≡ a.1.0.now → a'.1.0.now ≡ a.1.1.1.0.now
    → call_check a.0 a.1.0.now a.1.1.0.now a.1.1.1.0.now a.1.1.1.1.0.now ≡ Done
    → k ≤ a.1.1.1.1.1.0
    → (j : ℕ) × (j ≤ k) × (z ≡ packed 0 j 0)
figure_kept κs a z e rested κs' a' k e' asked same_table same_words done large =
    let kept : RestsWithin a.1.0.now a.1.1.1.0.now k = rw (same_table, same_words) at (asked.1 k refl) in
    let run = kept.rests _ _ _ _ done large in
    (run.steps, run.few, rested.0 ∙ ap (packed_rest a.1.1.1.1.1.0) run.answer)
