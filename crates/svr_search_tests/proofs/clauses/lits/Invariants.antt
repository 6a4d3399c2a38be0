use Rattle.svr_chain.specs.Clauses.{AreWithin}
use Rattle.svr_search_tests.proofs.clauses.lits.Given as goal

abbrev pub invariant-loop-number : goal.invariant-loop-number
invariant-loop-number l = AreWithin l.vars l.lits.items
