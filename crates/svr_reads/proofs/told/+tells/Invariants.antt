use Rattle.std.proofs.Common.{◌≡◌, drop}
use Rattle.svr_typed.specs.ExprTerm.{expr_terms, range_terms}
use Rattle.svr_reads.specs.Tells as spec
use Rattle.svr_reads.proofs.told.+tells.Given as goal

abbrev pub invariant-tells_in_exprs-loop-part : goal.invariant-tells_in_exprs-loop-part
invariant-tells_in_exprs-loop-part l = spec.tells_in_exprs l.told (expr_terms (drop l.part-index l.parts)) ≡ spec.tells_in_exprs l.told (expr_terms l.parts)

abbrev pub invariant-tells_in_ranges-loop-range : goal.invariant-tells_in_ranges-loop-range
invariant-tells_in_ranges-loop-range l = spec.tells_in_ranges l.told (range_terms (drop l.range-index l.set)) ≡ spec.tells_in_ranges l.told (range_terms l.set)
