use Rattle.std.proofs.Common.{◌∙◌, ap, arith, cond, false, get_or, take, List}
use Rattle.std.proofs.lemmas.List.{take_all}
use Rattle.svr_chain.specs.declared.clause.Lit.{Lit}
use Rattle.svr_chain.specs.Valuations.{lit_value}
use Rattle.svr_gate.specs.Numbers.{number}
use Rattle.svr_gate.proofs.Circuits.{later, IsWithin-later, AreWithin-three}
use Rattle.svr_gate.proofs.Vectors.{GivesNumber-same, GivesNumber-width}
use Rattle.svr_shape.proofs.ChoiceLemmas.{choose_none, choose_step}
use Rattle.svr_shape.proofs.choice.choose.Goals as goal

pub returns-in_err-bit-clause-extends : goal.returns-in_err-bit-clause-extends
returns-in_err-bit-clause-extends c = search later

pub loop-i-preserved : goal.loop-i-preserved
loop-i-preserved c = record {
  extends = search later;
  value = rw c.push_reserved.ensures.items
      (choose_step c.loop-i.b c.choose_bit.new.b c.args.test c.args.x.now c.args.y.now c.loop-i.chosen.items c.in_ok-bit.bit (record { var = 0; neg = false }) c.loop-i.i c.choose_bit.ensures.extends (omega arith) (omega arith) c.loop-i.invariant.value c.in_ok-bit.ensures.value);
  len = omega (arith, c.push_reserved.ensures.len, c.loop-i.invariant.len);
  room = omega (arith, c.push_reserved.ensures.capacity, c.loop-i.invariant.room);
}

pub loop-i-init : goal.loop-i-init
loop-i-init c = record {
  extends = search later;
  value = rw c.in_ok-chosen.ensures.items (choose_none c.args.b.now c.args.test c.args.x.now c.args.y.now);
  len = c.in_ok-chosen.ensures.len;
  room = c.in_ok-chosen.ensures.capacity;
}

pub bounds-y-i : goal.bounds-y-i
bounds-y-i c = omega (arith, c.requires.len, c.loop-i-test.true)

pub choose_bit-requires : goal.choose_bit-requires
choose_bit-requires c =
    let d : Lit = record { var = 0; neg = false } in
    let x = get_or c.args.x.now c.loop-i.i d in
    let y = get_or c.args.y.now c.loop-i.i d in
    let e = c.loop-i.invariant.extends in
    let w = AreWithin-three c.args.test x y (IsWithin-later c.args.test e c.requires.test_within)
    (IsWithin-later x e (c.requires.x_within c.loop-i.i d (omega arith)))
    (IsWithin-later y e (c.requires.y_within c.loop-i.i d (omega (arith, c.requires.len)))) in w

pub push_reserved-requires : goal.push_reserved-requires
push_reserved-requires c = omega (arith, c.loop-i.invariant.len, c.loop-i.invariant.room, c.loop-i-test.true)

pub returns-clause-extends : goal.returns-clause-extends
returns-clause-extends c = c.loop-i.invariant.extends

pub returns-clause-value : goal.returns-clause-value
returns-clause-value c =
    let i = c.loop-i.i in
    let x = c.args.x.now in
    let y = c.args.y.now in
    GivesNumber-width (omega arith)
    (GivesNumber-same (λ a. cond (lit_value a c.args.test) (number a x) (number a y)) c.loop-i.invariant.value
    (λ a m.
    ap (λ (ls : List Lit). cond (lit_value a c.args.test) (number a ls) (number a (take i y))) (take_all i x (omega arith))
    ∙ ap (λ (ls : List Lit). cond (lit_value a c.args.test) (number a x) (number a ls)) (take_all i y (omega (arith, c.requires.len)))))
