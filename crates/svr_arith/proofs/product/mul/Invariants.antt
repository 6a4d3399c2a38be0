use Rattle.std.proofs.Common.{◌*◌, ◌%◌, ◌^◌, ◌-◌, length, drop, false}
use Rattle.svr_gate.specs.Numbers.{number}
use Rattle.svr_gate.specs.Circuit.{Extends, GivesNumber, Tells}
use Rattle.svr_arith.proofs.product.mul.Given as goal

abbrev pub invariant-loop-i : goal.invariant-loop-i
invariant-loop-i l = record {
  extends : Extends l.fn.b l.b;
  zero : Tells l.b l.zero (λ a. false);
  value : GivesNumber l.b l.product.items l.i (λ a. (number a l.x * number a (drop (length l.y - l.i) l.y)) % 2 ^ l.i);
}
