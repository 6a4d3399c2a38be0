use Rattle.std.proofs.Common.{length}
use Rattle.svr_gate.specs.Numbers.{number}
use Rattle.svr_gate.proofs.NumberLemmas.{number-lt}
use Rattle.svr_gate.proofs.Vectors.{GivesNumber-same}
use Rattle.svr_vector.proofs.LiteralLemmas.{filled_same}
use Rattle.svr_inputs.specs.Inputs.{state_of, number_bits}
use Rattle.svr_inputs.proofs.ReadLemmas.{ready_some, gives_some}
use Rattle.svr_inputs.proofs.inputs.element.Goals as goal

pub returns-in_ok-extend-in-Some-clause-value : goal.returns-in_ok-extend-in-Some-clause-value
returns-in_ok-extend-in-Some-clause-value c =
    let n = (state_of c.args.inputs.now).element c.args.prop c.args.index in
    let o = number_bits c.args.inputs.now c.args.prop c.args.index in
    let r = ready_some c.args.own n o c.in-Some.bits.now c.in-Some.ensures (c.requires.ready c.args.index) in
    gives_some c.args.own n o c.in-Some.bits.now c.in-Some.ensures
    (GivesNumber-same (λ a. number a c.in-Some.bits.now) c.in_ok-extend-in-Some.ensures.value
    (λ a m. filled_same c.args.own (length c.in-Some.bits.now) (number a c.in-Some.bits.now) r.1 (number-lt a c.in-Some.bits.now)))
