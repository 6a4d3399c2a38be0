use Rattle.svr_budget_laws.specs.Budget.{bits_in}
use Rattle.svr_budget_laws.proofs.Given.{given_up, above_sixteen}
use Rattle.svr_budget_laws.proofs.laws.sixteen_bits_are_answered.Goals as goal

pub returns : goal.returns
returns c = λ call q e log first enough is. above_sixteen (bits_in e) call.budget enough (given_up call q e log first is).1
