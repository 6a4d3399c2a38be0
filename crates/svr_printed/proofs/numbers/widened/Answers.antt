use Rattle.std.proofs.Common.{arith}
use Rattle.svr_printed.proofs.Signs.{wide_below}
use Rattle.svr_printed.proofs.numbers.widened.Goals as goal

pub low-requires : goal.low-requires
low-requires c = wide_below c.args.width c.args.value c.requires (omega arith)
