use Rattle.std.proofs.Common.{◌≡◌}
use Rattle.svr_search_tests.proofs.sweeps.agrees.Given as goal

abbrev pub invariant-loop : goal.invariant-loop
invariant-loop l = l.built.solver.vars ≡ l.built.vars
