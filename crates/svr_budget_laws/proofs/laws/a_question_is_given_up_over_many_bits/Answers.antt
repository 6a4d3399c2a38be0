use Rattle.svr_budget_laws.proofs.Given.{given_up, step_over_many}
use Rattle.svr_budget_laws.proofs.laws.a_question_is_given_up_over_many_bits.Goals as goal

pub returns : goal.returns
returns c = record {
  comes = λ call q e log first is. (given_up call q e log first is).0;
  many = λ call q e log first is. (given_up call q e log first is).1;
  step = λ w o f number opts outcome w2 step. step_over_many w o f number opts outcome w2 step;
}
