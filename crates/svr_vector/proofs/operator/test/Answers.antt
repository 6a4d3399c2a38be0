use Rattle.svr_eval.specs.Value.{is_set}
use Rattle.svr_gate.specs.Numbers.{number}
use Rattle.svr_gate.proofs.Circuits.{Tells-same}
use Rattle.svr_shape.proofs.ReductionLemmas.{any_number}
use Rattle.svr_vector.proofs.operator.test.Goals as goal

pub returns-clause-value : goal.returns-clause-value
returns-clause-value c = Tells-same (λ a. is_set (number a c.args.x.now)) c.in_ok-any.ensures.value (λ a m. any_number a c.args.x.now)
