use Rattle.std.proofs.Common.{◌≡◌, ◌∙◌, ◌+◌, ap, get_or, arith, false, length, take, List}
use Rattle.std.proofs.lemmas.List.{take_all}
use Rattle.svr_chain.specs.declared.clause.Lit.{Lit}
use Rattle.svr_chain.specs.Valuations.{lit_value}
use Rattle.svr_gate.specs.Numbers.{bit, number}
use Rattle.svr_gate.proofs.Circuits.{later, Extends-refl, IsWithin-later, AreWithin-three}
use Rattle.svr_gate.proofs.Vectors.{GivesNumber-same, GivesNumber-width}
use Rattle.svr_arith.proofs.SumLemmas.{ripple_step, ripple_none, within_last}
use Rattle.svr_arith.proofs.adder.long_sum.Goals as goal

pub loop-i-init : goal.loop-i-init
loop-i-init c = record {
  extends = Extends-refl c.args.b.now;
  value = rw c.in_ok-sum.ensures.items (ripple_none c.args.b.now c.args.x.now c.args.y.now c.args.carry_in c.requires.carry_within);
  len = c.in_ok-sum.ensures.len;
  room = omega (arith, c.in_ok-sum.ensures.capacity);
}

pub full_add-requires : goal.full_add-requires
full_add-requires c =
    let d : Lit = record { var = 0; neg = false } in
    let e = c.loop-i.invariant.extends in
    AreWithin-three (get_or c.args.x.now c.loop-i.i d) (get_or c.args.y.now c.loop-i.i d) c.loop-i.carry
    (IsWithin-later (get_or c.args.x.now c.loop-i.i d) e (c.requires.x_within c.loop-i.i d (omega arith)))
    (IsWithin-later (get_or c.args.y.now c.loop-i.i d) e (c.requires.y_within c.loop-i.i d (omega arith)))
    (within_last c.loop-i.sum.items c.loop-i.carry c.loop-i.invariant.value.within)

pub returns-in_err-low-clause-extends : goal.returns-in_err-low-clause-extends
returns-in_err-low-clause-extends c = search later

pub loop-i-preserved : goal.loop-i-preserved
loop-i-preserved c = record {
  extends = search later;
  value = rw c.push_reserved.ensures.items
      (ripple_step c.loop-i.b c.full_add.new.b c.args.x.now c.args.y.now c.loop-i.sum.items c.loop-i.carry c.in_ok-low.low c.in_ok-low.high (record { var = 0; neg = false }) c.loop-i.i (λ a. bit (lit_value a c.args.carry_in))
      c.full_add.ensures.extends (omega arith) (omega arith) c.loop-i.invariant.value c.in_ok-low.ensures.value);
  len = omega (arith, c.push_reserved.ensures.len, c.loop-i.invariant.len);
  room = omega (arith, c.push_reserved.ensures.capacity, c.loop-i.invariant.room);
}

pub bounds-y-i : goal.bounds-y-i
bounds-y-i c = omega (arith, c.requires.len, c.loop-i-test.true)

pub push_reserved-requires : goal.push_reserved-requires
push_reserved-requires c = omega (arith, c.loop-i.invariant.len, c.loop-i.invariant.room, c.loop-i-test.true)

pub push_reserved-requires-2 : goal.push_reserved-requires-2
push_reserved-requires-2 c = omega (arith, c.loop-i.invariant.len, c.loop-i.invariant.room)

pub returns-clause-extends : goal.returns-clause-extends
returns-clause-extends c = c.loop-i.invariant.extends

pub returns-clause-value : goal.returns-clause-value
returns-clause-value c =
    let i = c.loop-i.i in
    let x = c.args.x.now in
    let y = c.args.y.now in
    let last : i ≡ length x = omega arith in
    rw c.push_reserved-2.ensures.items
    (GivesNumber-width (ap (λ n. n + 1) last)
    (GivesNumber-same (λ a. number a x + number a y + bit (lit_value a c.args.carry_in)) c.loop-i.invariant.value
    (λ a m.
    ap (λ (ls : List Lit). number a ls + number a (take i y) + bit (lit_value a c.args.carry_in)) (take_all i x (omega arith))
    ∙ ap (λ (ls : List Lit). number a x + number a ls + bit (lit_value a c.args.carry_in)) (take_all i y (omega (arith, c.requires.len))))))
