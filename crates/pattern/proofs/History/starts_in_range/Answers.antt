-- `starts_in_range` meets its contract: the first minute tells. Assumes nothing.
use Rattle.std.proofs.Common.{◌≡◌, ◌+◌, ◌/◌, ◌%◌, ◌^◌, ◌≤◌, ℕ, Bool, true, List, [], ◌∷◌, length, Option, Some, None, refl, ◌∙◌, ap, arith}
use Rattle.std.proofs.Math.Dec.{leb}
use Rattle.std.proofs.lemmas.Grind.{common_steps}
use Rattle.std.specs.List.{slice_get}
use Rattle.std.specs.Option.{option_copied}
use Rattle.time.specs.Annotations.{base, in_range}
use Rattle.time.specs.Patterns.{every, minute_at, in_order}
use Rattle.time.proofs.Histories.{first_tells}
use Rattle.pattern.proofs.History.starts_in_range.Goals as goal

-- what the first sample tells, if there is one
abbrev told : Option ℕ → Bool
told None = true
told (Some x) = leb 3000000000 ((x + (base + base)) % 2 ^ 64 / 2)

told_of :
    (samples : List ℕ) (asked : ℕ) → in_order samples asked ≡ true → asked ≤ 5000000000
    → told (slice_get samples 0) ≡ every (λ i. in_range (minute_at samples i)) (length samples)
unfolding every
told_of [] asked order early = refl
told_of (x ∷ xs) asked order early = first_tells (x ∷ xs) asked order early (omega arith)

pub returns : goal.returns
returns c =
    let e : c.is_none_or.result ≡ told (option_copied c.first.result) = grind (arith, common_steps) in
    e ∙ ap told c.first.ensures.value ∙ told_of c.args.self.samples.now c.args.self.asked c.requires c.args.self.early
