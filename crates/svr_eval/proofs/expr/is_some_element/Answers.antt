use Rattle.std.proofs.Common.{◌==◌, ℕ, sym}
use Rattle.svr_num.specs.Num.{extend_of}
use Rattle.svr_eval.specs.Reading.{reading_of}
use Rattle.svr_eval.specs.Value.{has_element}
use Rattle.svr_eval.proofs.Below.{any_below_true, same_is_true}
use Rattle.svr_eval.proofs.expr.is_some_element.Goals as goal

pub returns-then-value : goal.returns-then-value
unfolding has_element
returns-then-value c =
    let size = rw c.size-i-end.ensures at c.loop-i-test.true in
    let extended = rw (c.width.ensures.value, c.bits-element.ensures, c.element.ensures, c.from.ensures) at c.extend.ensures in
    let same = rw (c.value.ensures.value, c.value-in-loop-i.ensures.value, extended) at c.if-value.true in
    sym (any_below_true ((reading_of c.args.a.now).size c.args.prop) c.loop-i.i (λ (i : ℕ). c.args.x.value == extend_of c.args.signed c.args.x.width c.args.width ((reading_of c.args.a.now).element c.args.prop i)) size
    (same_is_true c.args.x.value (extend_of c.args.signed c.args.x.width c.args.width ((reading_of c.args.a.now).element c.args.prop c.loop-i.i)) (sym same)))
