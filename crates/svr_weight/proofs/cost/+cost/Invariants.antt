use Rattle.std.proofs.Common.{◌≡◌, ◌≤◌, ◌+◌, ◌-◌, ◌*◌, ◌^◌, max, drop}
use Rattle.svr_typed.specs.declared.expr.TExpr.{size-TExpr}
use Rattle.svr_typed.specs.declared.expr.TRange.{size-TRange}
use Rattle.svr_typed.specs.declared.expr.TBound.{size-TBound}
use Rattle.svr_typed.specs.ExprTerm.{expr_terms, range_terms}
use Rattle.svr_eval.specs.Typed.{AreTyped, RangesAreTyped}
use Rattle.svr_frame.specs.Frame.{frame_term}
use Rattle.svr_frame.specs.Weight.{capped}
use Rattle.svr_weight.specs.Costs as spec
use Rattle.svr_weight.proofs.cost.+cost.Given as goal

abbrev pub invariant-exprs_cost-loop-e : goal.invariant-exprs_cost-loop-e
invariant-exprs_cost-loop-e l = record {
  typed : AreTyped (expr_terms (drop l.e-index l.parts));
  small : l.sum ≤ 2 ^ 128 - 1;
  told : capped (l.sum + spec.exprs_cost (frame_term l.frame) l.part l.sizes (expr_terms (drop l.e-index l.parts))) ≡ capped (spec.exprs_cost (frame_term l.frame) l.part l.sizes (expr_terms l.parts));
}

abbrev pub invariant-ranges_cost-loop-range : goal.invariant-ranges_cost-loop-range
invariant-ranges_cost-loop-range l = record {
  typed : RangesAreTyped (range_terms (drop l.range-index l.set));
  small : l.sum ≤ 2 ^ 128 - 1;
  told : capped (l.sum + spec.ranges_cost (frame_term l.frame) l.part l.sizes l.width (range_terms (drop l.range-index l.set))) ≡ capped (spec.ranges_cost (frame_term l.frame) l.part l.sizes l.width (range_terms l.set));
}

abbrev pub decreases-own_cost : goal.decreases-own_cost
decreases-own_cost l = 8 * size-TExpr l.e.now + 2

abbrev pub decreases-cost : goal.decreases-cost
decreases-cost l = 8 * size-TExpr l.e.now + 1

abbrev pub decreases-element_cost : goal.decreases-element_cost
decreases-element_cost l = 8 * size-TExpr l.index.now + 3

abbrev pub decreases-cell_cost : goal.decreases-cell_cost
decreases-cell_cost l = 8 * max (size-TExpr l.first.now) (size-TExpr l.second.now) + 3

abbrev pub decreases-step_cost : goal.decreases-step_cost
decreases-step_cost l = 8 * size-TExpr l.body.now + 3

abbrev pub decreases-reduce_cost : goal.decreases-reduce_cost
decreases-reduce_cost l = 8 * size-TExpr l.body.now + 4

abbrev pub decreases-bit_cost : goal.decreases-bit_cost
decreases-bit_cost l = 8 * max (size-TExpr l.base.now) (size-TExpr l.first.now) + 3

abbrev pub decreases-bits_cost : goal.decreases-bits_cost
decreases-bits_cost l = 8 * max (size-TExpr l.base.now) (max (size-TExpr l.first.now) (size-TExpr l.last.now)) + 3

abbrev pub decreases-choice_cost : goal.decreases-choice_cost
decreases-choice_cost l = 8 * max (size-TExpr l.test.now) (max (size-TExpr l.yes.now) (size-TExpr l.no.now)) + 3

abbrev pub decreases-inside_cost : goal.decreases-inside_cost
decreases-inside_cost l = 8 * max (goal.size-inside_cost l) (size-TExpr l.left.now) + 7

abbrev pub decreases-copies_cost : goal.decreases-copies_cost
decreases-copies_cost l = 8 * max (goal.size-copies_cost l) (size-TExpr l.count.now) + 7

abbrev pub decreases-unary_cost : goal.decreases-unary_cost
decreases-unary_cost l = 8 * size-TExpr l.x.now + 3

abbrev pub decreases-binary_cost : goal.decreases-binary_cost
decreases-binary_cost l = 8 * max (size-TExpr l.left.now) (size-TExpr l.right.now) + 4

abbrev pub decreases-pair_cost : goal.decreases-pair_cost
decreases-pair_cost l = 8 * max (size-TExpr l.left.now) (size-TExpr l.right.now) + 3

abbrev pub decreases-exprs_cost : goal.decreases-exprs_cost
decreases-exprs_cost l = 8 * goal.size-exprs_cost l + 6

abbrev pub decreases-ranges_cost : goal.decreases-ranges_cost
decreases-ranges_cost l = 8 * goal.size-ranges_cost l + 6

abbrev pub decreases-range_cost : goal.decreases-range_cost
decreases-range_cost l = 8 * size-TRange l.range.now + 5

abbrev pub decreases-bound_cost : goal.decreases-bound_cost
decreases-bound_cost l = 8 * size-TBound l.bound.now + 4

abbrev pub decreases-value_cost : goal.decreases-value_cost
decreases-value_cost l = 8 * size-TExpr l.e.now + 3
