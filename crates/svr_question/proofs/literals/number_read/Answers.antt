use Rattle.std.proofs.Common.{arith}
use Rattle.svr_gate.proofs.NumberLemmas.{bit-le}
use Rattle.svr_query.specs.Logged.{valuation_of}
use Rattle.svr_question.proofs.Backwards.{none_read, one_read, room}
use Rattle.svr_question.proofs.literals.number_read.Goals as goal

pub loop-at-init : goal.loop-at-init
loop-at-init c = record { within = omega arith; value = none_read (valuation_of c.args.values.now) c.args.bits.now }

pub overflow_mul-number : goal.overflow_mul-number
overflow_mul-number c =
    let high = room (valuation_of c.args.values.now) c.args.bits.now c.loop-at.at c.loop-at.number c.requires c.loop-at-test.true c.loop-at.invariant.value in
    omega (arith, high)

pub overflow_add-number : goal.overflow_add-number
overflow_add-number c =
    let high = room (valuation_of c.args.values.now) c.args.bits.now c.loop-at.at c.loop-at.number c.requires c.loop-at-test.true c.loop-at.invariant.value in
    omega (arith, high, c.bit_read.ensures, bit-le)

pub loop-at-preserved : goal.loop-at-preserved
loop-at-preserved c = record {
  within = omega (arith, c.loop-at.invariant.within);
  value = one_read (valuation_of c.args.values.now) c.args.bits.now c.loop-at.at c.loop-at.number c.bit_read.result _ c.loop-at-test.true c.loop-at.invariant.within c.loop-at.invariant.value c.bit_read.ensures;
}
