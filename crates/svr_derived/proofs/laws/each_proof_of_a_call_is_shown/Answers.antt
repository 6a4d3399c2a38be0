use Rattle.svr_derived.proofs.Showing.{proofs_shown}
use Rattle.svr_derived.proofs.laws.each_proof_of_a_call_is_shown.Goals as goal

pub returns : goal.returns
returns c = λ w o f number opts outcome w2 step. proofs_shown w o f number opts outcome w2 step
