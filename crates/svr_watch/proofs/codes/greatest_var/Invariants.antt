use Rattle.std.proofs.Common.{take}
use Rattle.svr_chain.specs.Clauses.{AreWithin}
use Rattle.svr_watch.proofs.codes.greatest_var.Given as goal

abbrev pub invariant-loop-lit : goal.invariant-loop-lit
invariant-loop-lit l = AreWithin l.most (take l.lit-index l.lits)
