use Rattle.std.proofs.Common.{ℕ, Bool, ◌-◌, ◌^◌, ◌<◌, length, drop}
use Rattle.svr_chain.specs.Valuations.{Meets}
use Rattle.svr_gate.specs.Numbers.{number}
use Rattle.svr_gate.specs.Circuit.{Extends}
use Rattle.svr_arith.specs.Division.{TellHighZeros, Divides}
use Rattle.svr_arith.proofs.division.divide.Given as goal

abbrev pub invariant-loop-i : goal.invariant-loop-i
invariant-loop-i l = record {
  extends : Extends l.fn.b l.b;
  small : (a : ℕ → Bool) → Meets a l.b.clauses → number a l.y < 2 ^ l.bits;
  zeros : TellHighZeros l.b l.zeros.items l.y;
  divides : Divides l.b l.quotient.items l.rest.items l.i (λ a. number a (drop (length l.x - l.i) l.x)) (λ a. number a l.y);
}
