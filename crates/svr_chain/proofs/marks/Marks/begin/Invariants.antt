use Rattle.std.proofs.Common.{◌≡◌, take}
use Rattle.svr_chain.specs.declared.clause.Lit.{Lit}
use Rattle.svr_chain.specs.Clauses.{has}
use Rattle.svr_chain.proofs.marks.Marks.begin.Given as goal

abbrev pub invariant-loop-lit : goal.invariant-loop-lit
invariant-loop-lit l = (x : Lit) → has l.self x ≡ has (take l.lit-index l.lits) x
