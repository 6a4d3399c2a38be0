use Rattle.std.proofs.Common.{◌≡◌, ◌<◌, length, ◌+◌, ◌++◌, ◌∷◌, [], take}
use Rattle.std.specs.Prelude.{vec_len, vec_capacity}
use Rattle.svr_chain.specs.Valuations.{lit_value}
use Rattle.svr_gate.specs.Numbers.{bit, number}
use Rattle.svr_gate.specs.Circuit.{Extends, GivesNumber}
use Rattle.svr_arith.proofs.adder.long_sum.Given as goal

abbrev pub invariant-loop-i : goal.invariant-loop-i
invariant-loop-i l = record {
  extends : Extends l.fn.b l.b;
  value : GivesNumber l.b (l.sum.items ++ l.carry ∷ []) (l.i + 1) (λ a. number a (take l.i l.x) + number a (take l.i l.y) + bit (lit_value a l.fn.carry_in));
  len : vec_len l.sum ≡ l.i;
  room : length l.x < vec_capacity l.sum;
}
