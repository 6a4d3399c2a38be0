use Rattle.std.proofs.Common.{◌≡◌, ◌∙◌, sym}
use Rattle.svr_search_tests.proofs.circuit.cnf_of.Goals as goal

-- the variables behind the inputs are settled
pub returns-clause-settled : goal.returns-clause-settled
returns-clause-settled c = rw (c.finish.ensures.clauses, c.finish.ensures.vars, sym (c.add_gates-outcome.ensures.inputs ∙ c.requires.inputs)) c.finish.ensures.settled
