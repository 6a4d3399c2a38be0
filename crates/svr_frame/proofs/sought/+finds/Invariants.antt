use Rattle.std.proofs.Common.{◌≡◌, drop}
use Rattle.svr_typed.specs.ExprTerm.{expr_terms, range_terms}
use Rattle.svr_frame.specs.Frame.{frame_term}
use Rattle.svr_frame.specs.Finds as spec
use Rattle.svr_frame.proofs.sought.+finds.Given as goal

abbrev pub invariant-finds_in_exprs-loop-part : goal.invariant-finds_in_exprs-loop-part
invariant-finds_in_exprs-loop-part l = spec.finds_in_exprs (frame_term l.frame) l.sought (expr_terms (drop l.part-index l.parts)) ≡ spec.finds_in_exprs (frame_term l.frame) l.sought (expr_terms l.parts)

abbrev pub invariant-finds_in_ranges-loop-range : goal.invariant-finds_in_ranges-loop-range
invariant-finds_in_ranges-loop-range l = spec.finds_in_ranges (frame_term l.frame) l.sought (range_terms (drop l.range-index l.set)) ≡ spec.finds_in_ranges (frame_term l.frame) l.sought (range_terms l.set)
