-- `is_in_range` meets its contract. Assumes nothing.
use Rattle.std.proofs.Common.{rules, ◌≡◌, ◌<◌, ◌/◌, ◌+◌, ◌%◌, ◌^◌, ℕ, Bool, true, false, List, length, sym}
use Rattle.std.proofs.lemmas.Iterator.{cases_from_all, YieldsList-from_slice}
use Rattle.std.specs.Bool.{MatchBool}
use Rattle.std.specs.List.{AllWithin, HoldsAt}
use borrow.Author.Tests.{tests}
use Rattle.time.specs.Annotations.{base, in_range}
use Rattle.time.specs.Patterns.{every, minute_at}
use Rattle.time.proofs.Tests.{every_is, every_fails}
use Rattle.pattern.proofs.History.is_in_range.Goals as goal

abbrev passes : ℕ → Bool
passes x = in_range ((x + (base + base)) % 2 ^ 64 / 2)

every_of :
    (xs : List ℕ) (r : Bool)
    → MatchBool r (AllWithin (λ x. passes x ≡ true) xs 0 (length xs)) ((k : ℕ) × (k < length xs) × HoldsAt (λ x. passes x ≡ false) xs k)
    → r ≡ every (λ i. in_range (minute_at xs i)) (length xs)
every_of xs true h = sym (every_is (λ i. in_range (minute_at xs i)) (length xs) (λ i l. h i 0 (search rules) l))
every_of xs false h = sym (every_fails (λ i. in_range (minute_at xs i)) (length xs) h.0 h.1 (h.2 0))

pub returns : goal.returns
returns c =
    every_of c.args.self.samples.now c.all.result
    (cases_from_all _ _ _ (λ x. passes x ≡ true) (λ x. passes x ≡ false) c.all.ensures.ran (YieldsList-from_slice c.args.self.samples.now cc)
    (λ x q k. search (rules, tests))
    (λ x q k. search (rules, tests)))
