use Rattle.svr_call.proofs.Changes.{budget_made}
use Rattle.svr_call.proofs.laws.a_spent_question_has_its_steps.Goals as goal

pub returns : goal.returns
returns c = record { steps = λ call query e log first is. budget_made call query e log first is }
