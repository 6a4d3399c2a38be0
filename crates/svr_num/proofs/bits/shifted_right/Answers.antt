use Rattle.std.proofs.Common.{sym, arith}
use Rattle.std.proofs.Math.Pow.{pow_mono}
use Rattle.std.proofs.Math.Nat.{div-eq_of_lt}
use Rattle.svr_num.proofs.bits.shifted_right.Goals as goal

pub returns-then-by-ge64 : goal.returns-then-by-ge64
returns-then-by-ge64 c = sym (div-eq_of_lt (omega (arith, pow_mono {i = 64} {j = c.args.by} c.if-by-ge64.true)))
