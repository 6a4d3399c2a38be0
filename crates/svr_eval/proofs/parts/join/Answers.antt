use Rattle.std.proofs.Common.{◌∙◌, ap}
use Rattle.svr_num.specs.Num.{Word}
use Rattle.svr_eval.proofs.Bits.{joined_is}
use Rattle.svr_eval.proofs.parts.join.Goals as goal

pub returns-clause-value : goal.returns-clause-value
returns-clause-value c =
    let high = rw c.value.ensures.value at c.value.ensures.below in
    let low = rw c.value-2.ensures.value at c.value-2.ensures.below in
    let whole = rw (c.width-2.ensures.value, c.width-3.ensures.value, c.width.ensures.value, c.from.ensures, c.from-2.ensures, c.value.ensures.value, c.value-2.ensures.value) at c.wrap.ensures in
    ap (λ (x : Word). x.value) whole ∙ joined_is c.args.high.value c.args.low.value c.args.high.width c.args.low.width c.requires high low
