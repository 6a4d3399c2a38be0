use Rattle.std.proofs.Common.{◌≡◌, ◌++◌, drop}
use Rattle.svr_phase.specs.Proof.{spelling}
use Rattle.svr_question.proofs.fixed.spell.Given as goal

abbrev pub invariant-loop-bit : goal.invariant-loop-bit
invariant-loop-bit l = l.literals.items ++ spelling (drop l.bit-index l.bits) l.rest ≡ l.initial.literals.items ++ spelling l.bits l.fn.number
