-- `natural` meets its contract: digit by digit. Assumes nothing.
use Rattle.std.proofs.Common.{◌≡◌, true, get_or, sym, ◌∙◌, arith}
use Rattle.statements.specs.Words.{is_digit}
use Rattle.statements.proofs.Scanning.{digit_here, next_power}
use Rattle.statements.proofs.natural.Goals as goal

pub loop-b-preserved : goal.loop-b-preserved
loop-b-preserved c =
    let digit : is_digit (get_or c.args.s.now c.loop-b.b-index 0) ≡ true = sym c.is_ascii_digit.ensures.value ∙ c.if-not-is_ascii_digit.false in
    let s = c.args.s.now in
    let i = c.loop-b.b-index in
    let more = digit_here s c.loop-b.v i c.loop-b-test.true digit in
    (omega (arith, c.from.ensures, next_power c.loop-b.v (get_or s i 0) i c.loop-b.invariant.0 digit), cc)
