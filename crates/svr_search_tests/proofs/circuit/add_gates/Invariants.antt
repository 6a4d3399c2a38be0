use Rattle.std.proofs.Common.{◌≡◌, ◌≤◌}
use Rattle.svr_chain.specs.Clauses.{AreWithin}
use Rattle.svr_search_tests.proofs.circuit.add_gates.Given as goal

abbrev pub invariant-loop-gate : goal.invariant-loop-gate
invariant-loop-gate l = record {
  inputs : l.builder.inputs ≡ l.fn.builder.inputs;
  vars : l.fn.builder.vars ≤ l.builder.vars;
  within : AreWithin l.builder.vars l.signals.items;
}
