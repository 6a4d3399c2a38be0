use Rattle.std.proofs.Common.{◌+◌}
use Rattle.svr_gate.specs.Circuit.{Extends}
use Rattle.svr_vector.specs.Places.{rows}
use Rattle.svr_inputs.specs.Inputs.{read_at}
use Rattle.svr_inputs.specs.Elements.{GiveNumbers}
use Rattle.svr_inputs.proofs.elements.elements.Given as goal

abbrev pub invariant-loop-i : goal.invariant-loop-i
invariant-loop-i l = record {
  extends : Extends l.fn.b l.b;
  value : GiveNumbers l.b (rows l.elements.items) l.i l.own (λ v k. (read_at l.inputs v).element l.prop (l.first + k));
}
