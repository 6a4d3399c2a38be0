use Rattle.std.proofs.Common.{take}
use Rattle.std.specs.List.{list_all}
use Rattle.svr_chain.specs.Valuations.{lit_value}
use Rattle.svr_gate.specs.Circuit.{Extends, Tells}
use Rattle.svr_shape.proofs.reduction.all.Given as goal

abbrev pub invariant-loop-lit : goal.invariant-loop-lit
invariant-loop-lit l = record {
  extends : Extends l.fn.b l.b;
  value : Tells l.b l.all (λ a. list_all (lit_value a) (take l.lit-index l.x));
}
