use Rattle.std.proofs.Common.{◌≡◌, ◌+◌, ◌<◌, ◌≤◌, drop, length}
use Rattle.svr_refusal.specs.Place.{past}
use Rattle.svr_refusal.proofs.place.place_of.Given as goal

abbrev pub invariant-loop-byte : goal.invariant-loop-byte
invariant-loop-byte l = record {
  place : past (record { line = l.line; column = l.column }) (drop l.byte-index l.front) ≡ past (record { line = 1; column = 1 }) l.front;
  line : l.line ≤ l.byte-index + 1;
  column : l.column ≤ l.byte-index + 1;
  small : length l.front < 4294967295;
}
