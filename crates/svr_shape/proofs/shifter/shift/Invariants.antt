use Rattle.std.proofs.Common.{length, take}
use Rattle.svr_gate.specs.Numbers.{number}
use Rattle.svr_gate.specs.Circuit.{Extends, GivesNumber, Tells}
use Rattle.svr_shape.specs.Shape.{is_signed, fill_of}
use Rattle.svr_shape.proofs.ShiftLemmas.{moved_number}
use Rattle.svr_shape.proofs.shifter.shift.Given as goal

abbrev pub invariant-loop-i : goal.invariant-loop-i
invariant-loop-i l = record {
  extends : Extends l.fn.b l.b;
  fill : Tells l.b l.fill (λ a. fill_of (is_signed l.kind) (length l.x) (number a l.x));
  value : GivesNumber l.b l.shifted.items (length l.x) (λ a. moved_number l.kind (fill_of (is_signed l.kind) (length l.x) (number a l.x)) (length l.x) (number a l.x) (number a (take l.i l.by)));
}
