use Rattle.std.proofs.Common.{length}
use Rattle.std.specs.Prelude.{◌-ℤ◌}
use Rattle.svr_gate.specs.Numbers.{number}
use Rattle.svr_gate.specs.Circuit.{Extends, GivesNumber}
use Rattle.svr_num.specs.Num.{read_of}
use Rattle.svr_eval.specs.Value as spec
use Rattle.svr_vector.proofs.place.bits_from.Given as goal

abbrev pub invariant-loop-k : goal.invariant-loop-k
invariant-loop-k l = record {
  extends : Extends l.fn.b l.b;
  value : GivesNumber l.b l.bits.items l.k (λ a. spec.bits_from (read_of l.signed (length l.index) (number a l.index) -ℤ l.low) l.k (number a l.x));
}
