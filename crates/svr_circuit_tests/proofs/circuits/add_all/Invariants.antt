use Rattle.std.proofs.Common.{◌≤◌}
use Rattle.svr_circuit_tests.proofs.circuits.add_all.Given as goal

abbrev pub invariant-loop-circuit : goal.invariant-loop-circuit
invariant-loop-circuit l = 9 ≤ l.b.vars

abbrev pub invariant-loop-test : goal.invariant-loop-test
invariant-loop-test l = 9 ≤ l.b.vars
