use Rattle.std.proofs.Common.{◌≡◌, ℕ, length, ap, ◌∙◌, arith, false, get_or}
use Rattle.std.specs.Prelude.{◌-ℤ◌}
use Rattle.std.specs.Int.{w128}
use mir.Val.{to_z, of_z}
use Rattle.std.proofs.lemmas.Int.{ints, to_z-of_z}
use Rattle.svr_gate.specs.Numbers.{number}
use Rattle.svr_gate.proofs.NumberLemmas.{number-lt}
use Rattle.svr_gate.proofs.Circuits.{later, Tells-same, Extends-trans, IsWithin-later, AreWithin-three}
use Rattle.svr_num.specs.Num.{read_of}
use Rattle.svr_vector.specs.Places.{bit_at_place, bit_below}
use Rattle.svr_vector.proofs.PickLemmas.{bit_step, bit_all}
use Rattle.svr_vector.proofs.place.some_bit.Goals as goal

pub returns-in_err-is_here-clause-extends : goal.returns-in_err-is_here-clause-extends
returns-in_err-is_here-clause-extends c = search later

pub returns-in_err-found-2-clause-extends : goal.returns-in_err-found-2-clause-extends
returns-in_err-found-2-clause-extends c = search later

pub loop-i-preserved : goal.loop-i-preserved
loop-i-preserved c = record {
  extends = search later;
  value =
      bit_step c.args.x.now c.args.index.now c.args.signed (to_z w128 (of_z w128 c.args.low)) _ c.loop-i.i c.in_ok-is_here.is_here c.loop-i.found c.in_ok-found-2.found (record { var = 0; neg = false })
      c.is_place.ensures.extends c.define.ensures.extends (omega (arith, c.loop-i-test.true)) c.loop-i.invariant.value c.in_ok-is_here.ensures.value c.in_ok-found-2.ensures.value (omega (arith, ints));
}

pub returns-clause-value : goal.returns-clause-value
returns-clause-value c =
    let all : c.loop-i.i ≡ length c.args.x.now = omega arith in
    Tells-same (λ a. bit_at_place (read_of c.args.signed (length c.args.index.now) (number a c.args.index.now) -ℤ c.args.low) (number a c.args.x.now)) c.loop-i.invariant.value
    (λ a m.
    ap (λ n. bit_below n (read_of c.args.signed (length c.args.index.now) (number a c.args.index.now) -ℤ to_z w128 (of_z w128 c.args.low)) (number a c.args.x.now)) all
    ∙ bit_all (length c.args.x.now) (number a c.args.x.now) (read_of c.args.signed (length c.args.index.now) (number a c.args.index.now) -ℤ to_z w128 (of_z w128 c.args.low)) (number-lt a c.args.x.now)
    ∙ ap (λ z. bit_at_place (read_of c.args.signed (length c.args.index.now) (number a c.args.index.now) -ℤ z) (number a c.args.x.now)) (to_z-of_z w128 c.args.low c.ranges.low))

pub returns-clause-extends : goal.returns-clause-extends
returns-clause-extends c = c.loop-i.invariant.extends

pub define-requires : goal.define-requires
define-requires c =
    let bit = get_or c.args.x.now c.loop-i.i (record { var = 0; neg = false }) in
    let e = c.is_place.ensures.extends in
    let i = c.loop-i.invariant in
    let w = AreWithin-three c.in_ok-is_here.is_here bit c.loop-i.found c.in_ok-is_here.ensures.value.within
    (IsWithin-later bit (Extends-trans i.extends e) (c.requires.within c.loop-i.i _ (omega (arith, c.loop-i-test.true))))
    (IsWithin-later c.loop-i.found e i.value.within) in (omega arith, (omega arith, w))
