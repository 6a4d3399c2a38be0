use Rattle.std.proofs.Common.{◌≡◌, List, Bool, false, replicate, length, sym, ap, ◌∙◌, subst}
use Rattle.std.proofs.lemmas.List.{length-replicate}
use Rattle.svr_query.specs.Answer.{SolverView}
use Rattle.svr_core.specs.End.{IsCoreEnd}
use Rattle.svr_conflict.proofs.over.core_over.Goals as goal

pub find_core-requires-clause-prefer : goal.find_core-requires-clause-prefer
find_core-requires-clause-prefer c =
    let many : c.in_ok-wanted.wanted.items ≡ replicate c.args.cnf.vars false = c.in_ok-wanted.ensures.items_if_clones_equal (λ y e. e) in
    ap (λ (bs : List Bool). length bs) (c.as_slice-prefer.ensures.value ∙ many) ∙ length-replicate c.args.cnf.vars false ∙ sym c.in_ok-solver.ensures.vars

pub returns-clause-vars : goal.returns-clause-vars
returns-clause-vars c = c.into_cnf-cnf.ensures.vars ∙ c.find_core.ensures.later.vars ∙ c.in_ok-solver.ensures.vars

pub returns-clause-clauses : goal.returns-clause-clauses
returns-clause-clauses c = c.into_cnf-cnf.ensures.clauses ∙ c.find_core.ensures.later.clauses ∙ c.in_ok-solver.ensures.clauses

pub returns-clause-end : goal.returns-clause-end
returns-clause-end c =
    let made = c.in_ok-solver.ensures in
    subst (λ (s : SolverView). IsCoreEnd s c.args.base.now c.args.groups.now c.args.budget c.in_ok-end.end) (λ i. record { vars = made.vars i; clauses = made.clauses i; steps = made.steps i; bits = made.bits i }) c.in_ok-end.ensures.end
