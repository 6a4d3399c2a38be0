use Rattle.std.proofs.Common.{◌==◌, length}
use Rattle.svr_gate.specs.Numbers.{number}
use Rattle.svr_gate.specs.Circuit.{Extends, Tells}
use Rattle.svr_num.specs.Num.{extend_of}
use Rattle.svr_eval.specs.Value.{any_below}
use Rattle.svr_inputs.specs.Inputs.{read_at}
use Rattle.svr_inputs.proofs.elements.is_some_element.Given as goal

abbrev pub invariant-loop-i : goal.invariant-loop-i
invariant-loop-i l = record {
  extends : Extends l.fn.b l.b;
  value : Tells l.b l.found (λ v. any_below l.i (λ i. number v l.x == extend_of l.signed (length l.x) l.own ((read_at l.inputs v).element l.prop i)));
}
