use Rattle.std.proofs.Common.{◌≡◌, ℕ, length, ap, ◌∙◌, arith}
use Rattle.std.specs.Prelude.{◌-ℤ◌}
use Rattle.std.specs.Int.{w64}
use mir.Val.{to_z, of_z}
use Rattle.std.proofs.lemmas.Int.{ints, to_z-of_z}
use Rattle.svr_gate.specs.Numbers.{number}
use Rattle.svr_gate.proofs.Circuits.{later}
use Rattle.svr_gate.proofs.Vectors.{GivesNumber-same, GivesNumber-nil, GivesNumber-width}
use Rattle.svr_num.specs.Num.{read_of}
use Rattle.svr_eval.specs.Value as spec
use Rattle.svr_vector.proofs.PickLemmas.{from_step, bits_none}
use Rattle.svr_vector.proofs.place.bits_from.Goals as goal

pub loop-k-init : goal.loop-k-init
loop-k-init c = record {
  extends = search later;
  value = rw c.new-bits.ensures.items
      (GivesNumber-same (λ a. spec.bits_from (read_of c.args.signed (length c.args.index.now) (number a c.args.index.now) -ℤ to_z w64 (of_z w64 c.args.low)) 0 (number a c.args.x.now)) (GivesNumber-nil c.args.b.now)
      (λ a m. bits_none (read_of c.args.signed (length c.args.index.now) (number a c.args.index.now) -ℤ to_z w64 (of_z w64 c.args.low)) (number a c.args.x.now)));
}

pub returns-in_err-bit-clause-extends : goal.returns-in_err-bit-clause-extends
returns-in_err-bit-clause-extends c = search later

pub returns-in_err-push-clause-extends : goal.returns-in_err-push-clause-extends
returns-in_err-push-clause-extends c = search later

pub loop-k-preserved : goal.loop-k-preserved
loop-k-preserved c = record {
  extends = search later;
  value = rw c.in_ok-push.ensures.items
      (from_step c.args.x.now c.args.index.now c.args.signed (to_z w64 (of_z w64 c.args.low)) _ c.loop-k.k c.loop-k.bits.items c.in_ok-bit.bit
      c.bit_of.ensures.extends c.loop-k.invariant.value c.in_ok-bit.ensures.value (omega (arith, ints, c.from.ensures, c.from-in-loop-k.ensures)));
}

pub returns-clause-value : goal.returns-clause-value
returns-clause-value c =
    let all : c.loop-k.k ≡ c.args.width = omega arith in
    GivesNumber-same (λ a. spec.bits_from (read_of c.args.signed (length c.args.index.now) (number a c.args.index.now) -ℤ c.args.low) c.args.width (number a c.args.x.now))
    (GivesNumber-width all c.loop-k.invariant.value)
    (λ a m.
    ap (λ n. spec.bits_from (read_of c.args.signed (length c.args.index.now) (number a c.args.index.now) -ℤ to_z w64 (of_z w64 c.args.low)) n (number a c.args.x.now)) all
    ∙ ap (λ z. spec.bits_from (read_of c.args.signed (length c.args.index.now) (number a c.args.index.now) -ℤ z) c.args.width (number a c.args.x.now)) (to_z-of_z w64 c.args.low c.ranges.low))
