use Rattle.std.proofs.Common.{length}
use Rattle.svr_gate.specs.Numbers.{number}
use Rattle.svr_gate.specs.Circuit.{Extends, GivesNumber}
use Rattle.svr_num.specs.Num.{read_of}
use Rattle.svr_vector.specs.Places.{rows, number_below}
use Rattle.svr_vector.proofs.pick.picked.Given as goal

abbrev pub invariant-loop-i : goal.invariant-loop-i
invariant-loop-i l = record {
  extends : Extends l.fn.b l.b;
  value : GivesNumber l.b l.picked.items l.width (λ a. number_below l.i a (rows l.elements) (read_of l.signed (length l.index) (number a l.index)));
}
