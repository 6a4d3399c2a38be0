use Rattle.svr_chain.specs.Valuations.{lit_value}
use Rattle.svr_gate.proofs.Vectors.{GivesNumber-same}
use Rattle.svr_eval.specs.Value as value
use Rattle.svr_vector.proofs.LiteralLemmas.{truth_of_bit}
use Rattle.svr_vector.proofs.literals.truth_at.Goals as goal

pub returns-clause-value : goal.returns-clause-value
returns-clause-value c =
    GivesNumber-same (λ a. value.truth c.args.width c.args.signed (lit_value a c.args.bit)) c.in_ok-extend.ensures.value
    (λ a m. truth_of_bit a c.args.bit c.args.width c.args.signed)
