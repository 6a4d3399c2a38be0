use Rattle.std.proofs.Common.{take, eqb, ◌%◌}
use Rattle.std.specs.List.{count_by}
use Rattle.svr_chain.specs.Valuations.{lit_value}
use Rattle.svr_gate.specs.Circuit.{Extends, Tells}
use Rattle.svr_shape.proofs.reduction.odd.Given as goal

abbrev pub invariant-loop-lit : goal.invariant-loop-lit
invariant-loop-lit l = record {
  extends : Extends l.fn.b l.b;
  value : Tells l.b l.odd (λ a. eqb (count_by (lit_value a) (take l.lit-index l.x) % 2) 1);
}
