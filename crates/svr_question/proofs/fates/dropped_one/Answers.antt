use Rattle.svr_phase.specs.declared.proof.ProofReason.TheVariants as why
use Rattle.svr_question.proofs.fates.dropped_one.Goals as goal

pub returns : goal.returns
returns c =
    λ i. record { rank = c.args.dropped.0; proof = record { encoding = c.args.place; assume = c.in_ok-assume.ensures i; refutation = c.args.dropped.1; reason = why.Drop c.args.dropped.0 } }
