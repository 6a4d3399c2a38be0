use Rattle.std.proofs.Common.{◌≡◌, ◌≤◌, take, cond, length}
use Rattle.std.specs.Prelude.{vec_len, vec_capacity}
use Rattle.svr_chain.specs.Valuations.{lit_value}
use Rattle.svr_gate.specs.Numbers.{number}
use Rattle.svr_gate.specs.Circuit.{Extends, GivesNumber}
use Rattle.svr_shape.proofs.choice.choose.Given as goal

abbrev pub invariant-loop-i : goal.invariant-loop-i
invariant-loop-i l = record {
  extends : Extends l.fn.b l.b;
  value : GivesNumber l.b l.chosen.items l.i (λ a. cond (lit_value a l.test) (number a (take l.i l.x)) (number a (take l.i l.y)));
  len : vec_len l.chosen ≡ l.i;
  room : length l.x ≤ vec_capacity l.chosen;
}
