use Rattle.std.proofs.Common.{◌≡◌, ◌≤◌, take, length}
use Rattle.std.specs.Prelude.{vec_len, vec_capacity}
use Rattle.svr_gate.specs.Numbers.{number}
use Rattle.svr_gate.specs.Circuit.{Extends, GivesNumber}
use Rattle.svr_vector.specs.Bitwise.{number_gate}
use Rattle.svr_vector.proofs.bitwise.bitwise.Given as goal

abbrev pub invariant-loop-i : goal.invariant-loop-i
invariant-loop-i l = record {
  extends : Extends l.fn.b l.b;
  value : GivesNumber l.b l.v.items l.i (λ a. number_gate l.op (number a (take l.i l.x)) (number a (take l.i l.y)));
  len : vec_len l.v ≡ l.i;
  room : length l.x ≤ vec_capacity l.v;
}
