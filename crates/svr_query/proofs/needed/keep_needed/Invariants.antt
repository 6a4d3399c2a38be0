use Rattle.std.proofs.Common.{◌≡◌, List, length, take}
use Rattle.svr_chain.specs.declared.clause.Lit.{Lit}
use Rattle.svr_query.specs.Needed.{IsKept}
use Rattle.svr_query.proofs.needed.keep_needed.Given as goal

abbrev pub invariant-loop-place : goal.invariant-loop-place
invariant-loop-place l = (cnf : List (List Lit)) → length cnf ≡ l.clauses → IsKept cnf (take l.passed l.steps) l.kept.items l.places.items
