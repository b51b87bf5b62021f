-- `put` meets its contract: the part is the piece now, and the rest is as it was. Assumes nothing.
use Rattle.std.proofs.Common.{length, ap, refl, arith}
use Rattle.std.proofs.lemmas.Slice.{take-put_mid, drop-put_mid}
use Rattle.output.proofs.put.Goals as goal

pub returns : goal.returns
returns c =
    let out = c.args.out.now in
    let at = c.args.at in
    let piece = c.args.piece.now in
    let now = c.copy_from_slice.new.self in
    let same = c.copy_from_slice.ensures.after in
    record {
      place = refl;
      bytes = rw (← same) (take-put_mid at _ out now _ (omega (arith, ap length same)) (omega arith));
      rest = drop-put_mid at _ out now _ (omega arith) (omega arith) (omega (arith, ap length same));
    }
