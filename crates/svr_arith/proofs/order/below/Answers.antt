use Rattle.std.proofs.Common.{◌∙◌, ap, sym, arith, false, take, get_or, ltb}
use Rattle.std.proofs.lemmas.List.{take_all}
use Rattle.svr_chain.specs.declared.clause.Lit.{Lit}
use Rattle.svr_gate.specs.Numbers.{number}
use Rattle.svr_gate.proofs.NumberLemmas.{number-nil}
use Rattle.svr_gate.proofs.Circuits.{later, Tells-same, IsWithin-later, AreWithin-three}
use Rattle.svr_arith.proofs.OrderLemmas.{below_step}
use Rattle.svr_arith.proofs.order.below.Goals as goal

pub loop-i-init : goal.loop-i-init
loop-i-init c = record {
  extends = search later;
  value = Tells-same (λ a. ltb (number a (take 0 c.args.x.now)) (number a (take 0 c.args.y.now))) c.in_ok-below.ensures.value (λ a m. sym (ap (λ n. ltb n n) (number-nil a)));
}

pub bit_below-requires : goal.bit_below-requires
bit_below-requires c =
    let d : Lit = record { var = 0; neg = false } in
    let e = c.loop-i.invariant.extends in
    AreWithin-three (get_or c.args.x.now c.loop-i.i d) (get_or c.args.y.now c.loop-i.i d) c.loop-i.below
    (IsWithin-later (get_or c.args.x.now c.loop-i.i d) e (c.requires.x_within c.loop-i.i d (omega arith)))
    (IsWithin-later (get_or c.args.y.now c.loop-i.i d) e (c.requires.y_within c.loop-i.i d (omega arith)))
    c.loop-i.invariant.value.within

pub returns-in_err-below-2-clause-extends : goal.returns-in_err-below-2-clause-extends
returns-in_err-below-2-clause-extends c = search later

pub loop-i-preserved : goal.loop-i-preserved
loop-i-preserved c = record {
  extends = search later;
  value = below_step c.loop-i.b c.bit_below.new.b c.args.x.now c.args.y.now c.loop-i.below c.in_ok-below-2.below (record { var = 0; neg = false }) c.loop-i.i c.bit_below.ensures.extends (omega arith) (omega arith) c.loop-i.invariant.value c.in_ok-below-2.ensures.value;
}

pub returns-clause-value : goal.returns-clause-value
returns-clause-value c =
    Tells-same (λ a. ltb (number a c.args.x.now) (number a c.args.y.now)) c.loop-i.invariant.value
    (λ a m.
    ap (λ xs. ltb (number a xs) (number a (take c.loop-i.i c.args.y.now))) (take_all c.loop-i.i c.args.x.now (omega arith))
    ∙ ap (λ ys. ltb (number a c.args.x.now) (number a ys)) (take_all c.loop-i.i c.args.y.now (omega arith)))
