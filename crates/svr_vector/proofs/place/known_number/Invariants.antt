use Rattle.std.proofs.Common.{◌<◌, ◌^◌, take}
use Rattle.svr_gate.specs.Circuit.{GivesNumber}
use Rattle.svr_vector.proofs.place.known_number.Given as goal

abbrev pub invariant-loop-i : goal.invariant-loop-i
invariant-loop-i l = record {
  below : l.number < 2 ^ l.i;
  value : GivesNumber l.b (take l.i l.x) l.i (λ a. l.number);
}
