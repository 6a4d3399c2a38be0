use Rattle.svr_budget_laws.proofs.Given.{none_given_up}
use Rattle.svr_budget_laws.proofs.laws.small_questions_are_answered.Goals as goal

pub returns : goal.returns
returns c = λ call q e log first little is. none_given_up call little q e log first is
