use Rattle.std.proofs.Common.{◌≡◌, ◌&&◌, ◌||◌, not, take}
use Rattle.svr_chain.specs.declared.clause.Lit.{Lit}
use Rattle.svr_chain.specs.Clauses.{has, same_lit}
use Rattle.svr_chain.proofs.marks.Marks.resolve.Given as goal

abbrev pub invariant-loop-lit : goal.invariant-loop-lit
invariant-loop-lit l = (x : Lit) → has l.self x ≡ (has l.initial.self x || (has (take l.lit-index l.there) x && not (same_lit x l.other)))
