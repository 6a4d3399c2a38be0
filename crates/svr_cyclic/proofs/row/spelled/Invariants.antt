use Rattle.std.proofs.Common.{◌≡◌, ◌++◌, drop}
use Rattle.svr_phase.specs.Proof.{spelling}
use Rattle.svr_cyclic.proofs.row.spelled.Given as goal

abbrev pub invariant-loop-bit : goal.invariant-loop-bit
invariant-loop-bit l = l.literals.items ++ spelling (drop l.bit-index l.row) l.rest ≡ spelling l.row l.fn.number
