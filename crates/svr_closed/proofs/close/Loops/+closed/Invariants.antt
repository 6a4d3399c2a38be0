use Rattle.std.proofs.Common.{◌≡◌, ◌+◌, ◌*◌, map, take}
use Rattle.svr_typed.specs.declared.expr.TExpr.{size-TExpr}
use Rattle.svr_typed.specs.declared.expr.TRange.{size-TRange}
use Rattle.svr_typed.specs.declared.expr.TBound.{size-TBound}
use Rattle.svr_typed.specs.ExprTerm.{expr_term, range_term}
use Rattle.svr_frame.specs.Closed as spec
use Rattle.svr_closed.proofs.close.Loops.+closed.Given as goal

abbrev pub invariant-exprs-loop-e : goal.invariant-exprs-loop-e
invariant-exprs-loop-e l = map expr_term l.copies ≡ map (λ e. spec.closed_within l.self.env.now l.self.own (expr_term e)) (take l.e-index l.parts)

abbrev pub invariant-ranges-loop-range : goal.invariant-ranges-loop-range
invariant-ranges-loop-range l = map range_term l.copies ≡ map (λ r. spec.closed_range l.self.env.now l.self.own (range_term r)) (take l.range-index l.set)

abbrev pub decreases-expr : goal.decreases-expr
decreases-expr l = 2 * size-TExpr l.e.now

abbrev pub decreases-body : goal.decreases-body
decreases-body l = 2 * size-TExpr l.e.now + 1

abbrev pub decreases-exprs : goal.decreases-exprs
decreases-exprs l = 2 * goal.size-exprs l + 1

abbrev pub decreases-ranges : goal.decreases-ranges
decreases-ranges l = 2 * goal.size-ranges l + 1

abbrev pub decreases-range : goal.decreases-range
decreases-range l = 2 * size-TRange l.range.now

abbrev pub decreases-bound : goal.decreases-bound
decreases-bound l = 2 * size-TBound l.bound.now
