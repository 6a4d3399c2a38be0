use Rattle.std.proofs.Common.{ap, ◌∙◌, sym, length, arith, false}
use Rattle.std.specs.Int.{w128}
use Rattle.std.proofs.lemmas.Int.{to_z-of_z}
use Rattle.svr_gate.specs.Numbers.{number}
use Rattle.svr_gate.proofs.NumberLemmas.{number-lt}
use Rattle.svr_gate.proofs.Circuits.{Tells-same}
use Rattle.svr_gate.proofs.Vectors.{GivesNumber-self, Tells-bit}
use Rattle.svr_vector.specs.Places.{bit_at_place}
use Rattle.svr_vector.proofs.PickLemmas.{outside_bit}
use Rattle.svr_vector.proofs.place.bit_at.Goals as goal

pub returns-in-Some-clause-value : goal.returns-in-Some-clause-value
returns-in-Some-clause-value c =
    Tells-same (λ a. bit_at_place c.args.place (number a c.args.x.now))
    (Tells-bit c.in-Some.index (record { var = 0; neg = false }) (omega (arith, c.in-Some.ensures.1)) (GivesNumber-self c.args.b.now c.args.x.now c.requires))
    (λ a m. ap (λ z. bit_at_place z (number a c.args.x.now)) (sym (sym (to_z-of_z w128 c.args.place c.ranges.place) ∙ c.in-Some.ensures.0)))

pub returns-in_ok-zero-in-None-clause-value : goal.returns-in_ok-zero-in-None-clause-value
returns-in_ok-zero-in-None-clause-value c =
    Tells-same (λ a. bit_at_place c.args.place (number a c.args.x.now)) c.in_ok-zero-in-None.ensures.value
    (λ a m.
    outside_bit (length c.args.x.now) (number a c.args.x.now) c.args.place (number-lt a c.args.x.now)
    (λ k h q. c.in-None.ensures k (omega (arith, h)) (to_z-of_z w128 c.args.place c.ranges.place ∙ q)))
