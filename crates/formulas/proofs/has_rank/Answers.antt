-- `has_rank` meets its contract: a word of 64 bits has none from 64 on. Assumes nothing.
use Rattle.std.proofs.Common.{◌≡◌, ◌/◌, ◌^◌, arith}
use native.Mathlib.Nat.{div-eq_of_lt}
use lib.Pow.{pow_mono}
use Rattle.formulas.proofs.has_rank.Goals as goal

pub returns-then-rank-ge64 : goal.returns-then-rank-ge64
returns-then-rank-ge64 c =
    let wide = pow_mono {i = 64} {j = c.args.rank} c.if-rank-ge64.true in
    let none : c.args.set / 2 ^ c.args.rank ≡ 0 = div-eq_of_lt (omega (arith, wide)) in
    simp none
