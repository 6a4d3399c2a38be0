use Rattle.std.proofs.Common.{sym, ◌∙◌, arith}
use Rattle.svr_sized.proofs.Widths.{bits_found, bits_more, bits_last}
use Rattle.svr_sized.proofs.bits.cap_bits.Goals as goal

pub returns-then-is_enough : goal.returns-then-is_enough
returns-then-is_enough c = bits_found c.loop-bits.bits c.args.cap (sym c.is_enough.ensures ∙ c.if-is_enough.true) c.loop-bits.invariant

pub loop-bits-preserved : goal.loop-bits-preserved
loop-bits-preserved c = bits_more c.loop-bits.bits c.args.cap (omega arith) (sym c.is_enough.ensures ∙ c.if-is_enough.false) c.loop-bits.invariant

pub returns : goal.returns
returns c = bits_last c.loop-bits.bits c.args.cap (omega arith) (omega arith) c.loop-bits.invariant
