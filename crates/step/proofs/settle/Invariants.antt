-- What `settle` keeps: no step so far was without change, the words of children are those of the states, and the work space has room.
use Rattle.std.proofs.Common.{◌≡◌, length}
use Rattle.children.specs.Sets.{Surveyed}
use Rattle.step.proofs.Rests.{Running}
use Rattle.step.proofs.settle.Given as goal

-- the turns so far
abbrev pub invariant-loop-k : goal.invariant-loop-k
invariant-loop-k l =
    record {
      sets_long : length l.sets ≡ 2304;
      new_long : length l.new ≡ 256;
      long : length l.states ≡ l.n;
      told_long : length l.causes ≡ l.n;
      running : Running l.rule l.table l.fn.states l.words l.k l.states l.causes;
      surveyed : Surveyed l.table l.states l.n l.sets;
    }
