use Rattle.std.proofs.Common.{subst}
use Rattle.svr_query.specs.Answer.{SolverView}
use Rattle.svr_soft.specs.End.{IsPassEnd}
use Rattle.svr_question.proofs.ask.pass_over.Goals as goal

pub returns-clause-end : goal.returns-clause-end
returns-clause-end c =
    let made = c.in_ok-solver.ensures in
    subst (λ (s : SolverView). IsPassEnd s c.args.base.now c.args.soft.now c.args.budget c.in_ok-end.end) (λ i. record { vars = made.vars i; clauses = made.clauses i; steps = made.steps i; bits = made.bits i }) c.in_ok-end.ensures.end
