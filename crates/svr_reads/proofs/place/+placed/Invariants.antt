use Rattle.std.proofs.Common.{◌≡◌, ◌+◌, ◌*◌, ◌++◌, ◌∷◌, [], false, length, drop}
use Rattle.svr_typed.specs.declared.expr.TExpr.{size-TExpr}
use Rattle.svr_typed.specs.declared.expr.TRange.{size-TRange}
use Rattle.svr_typed.specs.declared.expr.TBound.{size-TBound}
use Rattle.svr_typed.specs.ExprTerm.{expr_term, expr_terms, range_terms}
use Rattle.svr_eval.specs.Reading.{reading_of}
use Rattle.svr_eval.specs.Typed.{AreTyped, RangesAreTyped, AllCanRead, RangesCanRead}
use Rattle.svr_reads.specs.Placed.{any_below, placed, placed_in_exprs, placed_in_ranges}
use Rattle.svr_reads.proofs.place.+placed.Given as goal

abbrev pub invariant-placed_in_turns-loop-turn : goal.invariant-placed_in_turns-loop-turn
invariant-placed_in_turns-loop-turn l =
    any_below l.turn (λ k. placed l.set.props.now (reading_of l.set.state.now) l.set.prop l.set.at (l.env ++ k ∷ []) (expr_term l.body)) ≡ false

abbrev pub invariant-placed_in_exprs-loop-part : goal.invariant-placed_in_exprs-loop-part
invariant-placed_in_exprs-loop-part l = record {
  typed : AreTyped (expr_terms (drop l.part-index l.parts));
  reads : AllCanRead (reading_of l.set.state.now) (length l.env) (expr_terms (drop l.part-index l.parts));
  told : placed_in_exprs l.set.props.now (reading_of l.set.state.now) l.set.prop l.set.at l.env (expr_terms (drop l.part-index l.parts)) ≡ placed_in_exprs l.set.props.now (reading_of l.set.state.now) l.set.prop l.set.at l.env (expr_terms l.parts);
}

abbrev pub invariant-placed_in_ranges-loop-range : goal.invariant-placed_in_ranges-loop-range
invariant-placed_in_ranges-loop-range l = record {
  typed : RangesAreTyped (range_terms (drop l.range-index l.members));
  reads : RangesCanRead (reading_of l.set.state.now) (length l.env) (range_terms (drop l.range-index l.members));
  told : placed_in_ranges l.set.props.now (reading_of l.set.state.now) l.set.prop l.set.at l.env (range_terms (drop l.range-index l.members)) ≡ placed_in_ranges l.set.props.now (reading_of l.set.state.now) l.set.prop l.set.at l.env (range_terms l.members);
}

abbrev pub decreases-placed : goal.decreases-placed
decreases-placed l = 8 * size-TExpr l.e.now + 1

abbrev pub decreases-placed_in_turns : goal.decreases-placed_in_turns
decreases-placed_in_turns l = 8 * size-TExpr l.body.now + 2

abbrev pub decreases-placed_in_exprs : goal.decreases-placed_in_exprs
decreases-placed_in_exprs l = 8 * goal.size-placed_in_exprs l + 3

abbrev pub decreases-placed_in_ranges : goal.decreases-placed_in_ranges
decreases-placed_in_ranges l = 8 * goal.size-placed_in_ranges l + 4

abbrev pub decreases-placed_in_range : goal.decreases-placed_in_range
decreases-placed_in_range l = 8 * size-TRange l.range.now + 3

abbrev pub decreases-placed_in_bound : goal.decreases-placed_in_bound
decreases-placed_in_bound l = 8 * size-TBound l.bound.now + 2
