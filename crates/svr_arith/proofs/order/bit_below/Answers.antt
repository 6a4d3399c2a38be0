use Rattle.svr_arith.proofs.OrderLemmas.{bit_below_tells}
use Rattle.svr_arith.proofs.order.bit_below.Goals as goal

pub returns-clause-value : goal.returns-clause-value
returns-clause-value c = bit_below_tells c.args.p c.args.q c.args.low (rw c.flipped.ensures at c.in_ok-define.ensures.value)
