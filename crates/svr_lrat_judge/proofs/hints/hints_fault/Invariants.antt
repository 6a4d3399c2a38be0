use Rattle.std.proofs.Common.{◌≡◌, drop, nat_eq}
use Rattle.indexmap.specs.IndexMap.{get}
use Rattle.svr_lrat_judge.specs.Verdict.{hints_fault}
use Rattle.svr_lrat_judge.proofs.hints.hints_fault.Given as goal

abbrev pub invariant-loop-hint : goal.invariant-loop-hint
invariant-loop-hint l = hints_fault (get nat_eq l.clauses) l.known (drop l.hint-index l.hints) ≡ hints_fault (get nat_eq l.clauses) l.fn.known l.hints
