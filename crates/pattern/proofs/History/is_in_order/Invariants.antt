-- `is_in_order` meets its contract: from the last of the samples that are left on, the minutes rise. Assumes nothing.
use Rattle.std.proofs.Common.{◌≡◌, ◌++◌, ℕ, List, length}
use Rattle.time.specs.Patterns.{every, edge, in_order}
use Rattle.time.proofs.Histories.{goes_up}
use Rattle.pattern.proofs.History.is_in_order.Given as goal

abbrev pub invariant-loop-x : goal.invariant-loop-x
invariant-loop-x l =
    record {
      after : List ℕ;
      split : l.self.samples.now ≡ l.x-iterator.iter.rest.now ++ after;
      until : l.until ≡ edge l.self.samples.now l.self.asked (length l.x-iterator.iter.rest.now);
      rises : every (goes_up l.self.samples.now l.self.asked) (length l.x-iterator.iter.rest.now) ≡ in_order l.self.samples.now l.self.asked;
    }
