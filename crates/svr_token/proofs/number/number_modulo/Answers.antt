use Rattle.std.proofs.Common.{ℕ, ◌*◌, ◌+◌, ◌%◌, ◌^◌, arith, ap, ◌∙◌}
use Rattle.svr_token.specs.Bytes.{base_of}
use Rattle.svr_token.proofs.Numbers.{one_more_mod, one_left_mod}
use Rattle.svr_token.proofs.number.number_modulo.Goals as goal
use Rattle.svr_token.proofs.number.number_modulo.Goals.{then-byte-ne95, else-byte-ne95}

pub loop-byte-preserved : goal.loop-byte-preserved
loop-byte-preserved c = elim c.if-byte-ne95.branch [
  | then-byte-ne95 w ↦ one_more_mod _ c.loop-byte.number c.loop-byte.byte-index c.if-byte-ne95.number c.args.digits.now c.loop-byte.invariant (omega arith) w.if-byte-ne95.true
      (w.number-is ∙ ap (λ (x : ℕ). ((c.loop-byte.number * x) % 2 ^ 64 + w.from.result) % 2 ^ 64) (c.from-base.ensures ∙ c.base.ensures)
      ∙ ap (λ (x : ℕ). ((c.loop-byte.number * base_of c.args.radix) % 2 ^ 64 + x) % 2 ^ 64) (w.from.ensures ∙ w.digit_of.ensures.value))
  | else-byte-ne95 w ↦ rw w.number-is (one_left_mod _ c.loop-byte.number c.loop-byte.byte-index c.args.digits.now c.loop-byte.invariant (omega arith) w.if-byte-ne95.false)
]
