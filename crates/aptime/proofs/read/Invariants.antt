-- `read` meets its contract: line by line. Assumes nothing.
use Rattle.std.proofs.Common.{◌≡◌, ◌+◌, ◌≤◌, length}
use Rattle.arrayvec.specs.ArrayVec.{array_vec_len}
use Rattle.aptime.specs.Lines.{lines, read_from, said_in}
use Rattle.aptime.proofs.read.Given as goal

abbrev pub invariant-loop-text : goal.invariant-loop-text
invariant-loop-text l =
    record {
      room : array_vec_len l.samples + length l.rest ≤ length l.input;
      counted : l.line + length l.rest ≤ length l.input + 1;
      so_far : read_from l.line l.told l.samples.items (lines l.rest) ≡ said_in l.input;
    }

abbrev pub decreases-loop-text : goal.decreases-loop-text
decreases-loop-text l = length l.rest
