use Rattle.std.proofs.Common.{take, eqb}
use Rattle.svr_gate.specs.Numbers.{number}
use Rattle.svr_gate.specs.Circuit.{Extends, Tells}
use Rattle.svr_arith.proofs.order.equal.Given as goal

abbrev pub invariant-loop-i : goal.invariant-loop-i
invariant-loop-i l = record {
  extends : Extends l.fn.b l.b;
  value : Tells l.b l.equal (λ a. eqb (number a (take l.i l.x)) (number a (take l.i l.y)));
}
