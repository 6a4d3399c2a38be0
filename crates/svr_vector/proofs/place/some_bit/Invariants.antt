use Rattle.std.proofs.Common.{length}
use Rattle.std.specs.Prelude.{◌-ℤ◌}
use Rattle.svr_gate.specs.Numbers.{number}
use Rattle.svr_gate.specs.Circuit.{Extends, Tells}
use Rattle.svr_num.specs.Num.{read_of}
use Rattle.svr_vector.specs.Places.{bit_below}
use Rattle.svr_vector.proofs.place.some_bit.Given as goal

abbrev pub invariant-loop-i : goal.invariant-loop-i
invariant-loop-i l = record {
  extends : Extends l.fn.b l.b;
  value : Tells l.b l.found (λ a. bit_below l.i (read_of l.signed (length l.index) (number a l.index) -ℤ l.low) (number a l.x));
}
