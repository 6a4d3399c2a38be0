use Rattle.std.proofs.Common.{ap, ◌∙◌, arith}
use Rattle.std.proofs.lemmas.Result.{IfOk-weaker}
use Rattle.svr_cover_steps.specs.Steps.{bins_at}
use Rattle.svr_cover_union.proofs.Made.{empty_range, open_range, closed_range, end_is, is_last}
use Rattle.svr_cover_union.proofs.ranges.of_range.Goals as goal

pub returns-then-is_empty : goal.returns-then-is_empty
returns-then-is_empty c = λ v lt. ap (λ z. bins_at z v) c.nothing.ensures ∙ empty_range c.args.bin v c.args.range (c.is_empty.ensures.yes c.if-is_empty.true)

pub returns-in-Some : goal.returns-in-Some
returns-in-Some c =
    IfOk-weaker c.closed.result _ _
    (λ r e v lt. ap (λ z. bins_at z v) e ∙ closed_range c.args.bin v c.args.range c.in-Some.end (c.is_empty.ensures.no c.if-is_empty.false)
    (end_is c.checked_add.result c.args.range.high c.in-Some.end c.checked_add.ensures c.in-Some.is))
    c.closed.ensures

pub returns-in-None : goal.returns-in-None
returns-in-None c =
    IfOk-weaker c.opened.result _ _
    (λ r e v lt. ap (λ z. bins_at z v) e ∙ open_range c.args.bin v c.args.range (is_last c.checked_add.result c.args.range.high v c.checked_add.ensures c.in-None.is lt))
    c.opened.ensures

pub closed-requires : goal.closed-requires
closed-requires c =
    let e = end_is c.checked_add.result c.args.range.high c.in-Some.end c.checked_add.ensures c.in-Some.is in
    let l = c.is_empty.ensures.no c.if-is_empty.false in
    omega (arith, e, l)
