use Rattle.std.proofs.Common.{◌-◌, length, get_or, true, false}
use Rattle.std.proofs.lemmas.Result.{IfOk-weaker}
use Rattle.svr_chain.specs.declared.clause.Lit.{Lit}
use Rattle.svr_chain.specs.Valuations.{lit_value}
use Rattle.svr_gate.specs.Numbers.{number}
use Rattle.svr_gate.specs.Circuit.{Tells}
use Rattle.svr_gate.proofs.Circuits.{later}
use Rattle.svr_num.specs.Num.{less_of}
use Rattle.svr_arith.specs.Order.{is_below}
use Rattle.svr_arith.proofs.OrderLemmas.{less_tells}
use Rattle.svr_arith.proofs.order.less.Goals as goal

pub returns-then-signed-clause-extends : goal.returns-then-signed-clause-extends
returns-then-signed-clause-extends c = search later

pub returns-then-signed-clause-value : goal.returns-then-signed-clause-value
returns-then-signed-clause-value c =
    let d : Lit = record { var = 0; neg = false } in
    let top = length c.args.x.now - 1 in
    rw c.if-signed.true
    (IfOk-weaker c.bit_below.result
    (λ l. Tells c.bit_below.new.b l (λ a. is_below (lit_value a (get_or c.args.y.now top d)) (lit_value a (get_or c.args.x.now top d)) (lit_value a c.in_ok-low.low)))
    (λ l. Tells c.bit_below.new.b l (λ a. less_of true (length c.args.x.now) (number a c.args.x.now) (number a c.args.y.now)))
    (λ l t. less_tells true c.args.x.now c.args.y.now c.in_ok-low.low d c.requires.some c.requires.len c.bit_below.ensures.extends c.in_ok-low.ensures.value t)
    c.bit_below.ensures.value)

pub returns-else-signed-clause-extends : goal.returns-else-signed-clause-extends
returns-else-signed-clause-extends c = search later

pub returns-else-signed-clause-value : goal.returns-else-signed-clause-value
returns-else-signed-clause-value c =
    let d : Lit = record { var = 0; neg = false } in
    let top = length c.args.x.now - 1 in
    rw c.if-signed.false
    (IfOk-weaker c.bit_below-else-signed.result
    (λ l. Tells c.bit_below-else-signed.new.b l (λ a. is_below (lit_value a (get_or c.args.x.now top d)) (lit_value a (get_or c.args.y.now top d)) (lit_value a c.in_ok-low.low)))
    (λ l. Tells c.bit_below-else-signed.new.b l (λ a. less_of false (length c.args.x.now) (number a c.args.x.now) (number a c.args.y.now)))
    (λ l t. less_tells false c.args.x.now c.args.y.now c.in_ok-low.low d c.requires.some c.requires.len c.bit_below-else-signed.ensures.extends c.in_ok-low.ensures.value t)
    c.bit_below-else-signed.ensures.value)
