use Rattle.std.proofs.Common.{refl, ap}
use Rattle.svr_chain.proofs.Same.{same-back}
use Rattle.svr_query.proofs.solver.Solver.new.Goals as goal

pub invariant_of-result : goal.invariant_of-result
invariant_of-result c =
    record { vars = ap (λ z. z.vars) c.in_ok-search.ensures.fresh; logged = (c.args.cnf.clauses.items, rw c.new-2.ensures.items refl, same-back c.in_ok-search.search.clauses c.args.cnf.clauses.items c.in_ok-search.ensures.same); bits = tt }
