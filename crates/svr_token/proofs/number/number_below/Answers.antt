use Rattle.std.proofs.Common.{◌+◌, ◌*◌, ◌∙◌, arith}
use Rattle.svr_token.proofs.Numbers.{stays_great, times_within, sum_within}
use Rattle.svr_token.proofs.number.number_below.Goals as goal

pub returns-in_err-checked_mul-clause-none : goal.returns-in_err-checked_mul-clause-none
returns-in_err-checked_mul-clause-none c =
    rw c.from_residual.ensures (stays_great c.args.radix c.loop-byte.number c.loop-byte.byte-index (c.loop-byte.number * c.from-base.result) _ c.args.digits.now c.loop-byte.invariant.value (omega arith)
    c.if-byte-ne95.true (times_within _ _ _ _ (c.from-base.ensures ∙ c.base.ensures)) c.in_err-checked_mul.ensures)

pub returns-in_err-number-clause-none : goal.returns-in_err-number-clause-none
returns-in_err-number-clause-none c =
    rw c.from_residual-in_err-number.ensures (stays_great c.args.radix c.loop-byte.number c.loop-byte.byte-index (c.in_ok-checked_mul.field-0 + c.from.result) _ c.args.digits.now c.loop-byte.invariant.value (omega arith)
    c.if-byte-ne95.true (sum_within _ _ _ _ _ _ (c.from-base.ensures ∙ c.base.ensures) c.in_ok-checked_mul.ensures.1 (c.from.ensures ∙ c.digit_of.ensures.value)) c.in_err-number.ensures)
