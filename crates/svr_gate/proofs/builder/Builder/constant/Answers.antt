use Rattle.std.proofs.Common.{sym}
use Rattle.svr_gate.proofs.Circuits.{Tells-flipped, Tells-same}
use Rattle.svr_gate.proofs.builder.Builder.constant.Goals as goal

pub returns-else-value-clause-value : goal.returns-else-value-clause-value
returns-else-value-clause-value c = rw c.flipped.ensures (Tells-same (λ a. c.args.value) (Tells-flipped c.in_ok-one.ensures.value) (λ a m. sym c.if-value.false))
