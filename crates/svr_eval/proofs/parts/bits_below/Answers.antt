use Rattle.std.proofs.Common.{sym, ap, ◌∙◌}
use Rattle.svr_num.specs.Num.{Word}
use Rattle.svr_eval.proofs.Bits.{moved_out}
use Rattle.svr_eval.proofs.parts.bits_below.Goals as goal

pub returns-else-by-lt64-clause-value : goal.returns-else-by-lt64-clause-value
returns-else-by-lt64-clause-value c =
    ap (λ (x : Word). x.value) c.bits.ensures ∙ sym (moved_out c.args.value c.args.by c.args.width c.ranges.value.fits c.if-by-lt64.false)
