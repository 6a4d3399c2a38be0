use Rattle.std.proofs.Common.{◌≡◌, ◌-◌, ◌+◌, ◌<◌, length, drop, eqb}
use Rattle.std.specs.Prelude.{vec_capacity}
use Rattle.svr_gate.specs.Numbers.{number}
use Rattle.svr_gate.specs.Circuit.{Extends, Tells}
use Rattle.svr_arith.specs.Division.{TellHighZeros}
use Rattle.svr_arith.proofs.division.high_zeros.Given as goal

abbrev pub invariant-loop-i : goal.invariant-loop-i
invariant-loop-i l = record {
  extends : Extends l.fn.b l.b;
  last : Tells l.b l.are_zero (λ a. eqb (number a (drop (length l.y - l.i) l.y)) 0);
  len : length l.zeros.items ≡ l.i + 1;
  value : TellHighZeros l.b l.zeros.items l.y;
  room : length l.y < vec_capacity l.zeros;
}
