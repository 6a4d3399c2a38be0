use Rattle.std.proofs.Common.{◌≡◌, ℕ, Bool, ◌≤◌, length, drop}
use Rattle.svr_chain.specs.Valuations.{Meets}
use Rattle.svr_gate.specs.Numbers.{number}
use Rattle.svr_arith.proofs.division.known_bits.Given as goal

abbrev pub invariant-zeros : goal.invariant-zeros
invariant-zeros l = (l.bits ≤ length l.y) × ((a : ℕ → Bool) → Meets a l.b.clauses → number a (drop l.bits l.y) ≡ 0)

abbrev pub decreases-zeros : goal.decreases-zeros
decreases-zeros l = l.bits
