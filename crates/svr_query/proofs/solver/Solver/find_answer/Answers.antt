use Rattle.std.proofs.Common.{◌≡◌, List, ap, ◌∙◌, subst}
use Rattle.std.specs.Prelude.{IfOk}
use Rattle.svr_chain.specs.declared.clause.Lit.{Lit}
use Rattle.svr_query.specs.Answer.{SolverView, solver_of, IsAnswer}
use Rattle.svr_query.proofs.solver.Solver.find_answer.Goals as goal

pub returns-clause-answer : goal.returns-clause-answer
returns-clause-answer c =
    let s = c.self.inside in
    let same : solver_of s.search.vars c.as_slice-cnf.result.now s.steps.items s.bits ≡ c.args.self.now =
    ap (λ (ks : List (List Lit)). solver_of s.search.vars ks s.steps.items s.bits) c.as_slice-cnf.ensures.value ∙ c.self.view_is in
    subst (λ (v : SolverView). IfOk c.searched.result (IsAnswer v c.args.assume.now c.args.budget)) same c.searched.ensures.answer
