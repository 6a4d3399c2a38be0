use Rattle.std.proofs.Common.{length, pos}
use Rattle.svr_gate.specs.Numbers.{number}
use Rattle.svr_gate.specs.Circuit.{Extends}
use Rattle.svr_num.specs.Num.{read_of}
use Rattle.svr_eval.specs.Value as spec
use Rattle.svr_vector.specs.Places.{rows}
use Rattle.svr_inputs.specs.Inputs.{read_at}
use Rattle.svr_inputs.specs.Elements.{GiveNumbers}
use Rattle.svr_inputs.proofs.elements.some_cell.Given as goal

abbrev pub invariant-loop-i : goal.invariant-loop-i
invariant-loop-i l = record {
  extends : Extends l.fn.b l.b;
  value : GiveNumbers l.b (rows l.chosen.items) l.i l.own (λ v k. spec.cell_at (read_at l.inputs v) l.prop l.inner (pos k) (read_of l.column_signed (length l.column) (number v l.column)));
}
