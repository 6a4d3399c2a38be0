use Rattle.std.proofs.Common.{◌%◌, ◌^◌, true}
use Rattle.svr_gate.specs.Circuit.{Extends, Tells, GivesNumber}
use Rattle.svr_vector.proofs.literals.numeral.Given as goal

abbrev pub invariant-loop-i : goal.invariant-loop-i
invariant-loop-i l = record {
  extends : Extends l.fn.b l.b;
  one : Tells l.b l.one (λ a. true);
  value : GivesNumber l.b l.v.items l.i (λ a. l.number % 2 ^ l.i);
}
