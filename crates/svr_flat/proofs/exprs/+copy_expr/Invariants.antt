use Rattle.std.proofs.Common.{◌≡◌, ◌+◌, ◌*◌, max, take}
use Rattle.svr_typed.specs.declared.expr.TExpr.{size-TExpr}
use Rattle.svr_typed.specs.declared.expr.TRange.{size-TRange}
use Rattle.svr_typed.specs.declared.expr.TBound.{size-TBound}
use Rattle.svr_flat.proofs.exprs.+copy_expr.Given as goal

abbrev pub invariant-copy_exprs-loop-e : goal.invariant-copy_exprs-loop-e
invariant-copy_exprs-loop-e l = l.copies ≡ take l.e-index l.parts

abbrev pub invariant-copy_ranges-loop-range : goal.invariant-copy_ranges-loop-range
invariant-copy_ranges-loop-range l = l.copies ≡ take l.range-index l.set

abbrev pub decreases-copy_expr : goal.decreases-copy_expr
decreases-copy_expr l = 8 * size-TExpr l.e.now

abbrev pub decreases-copy_boxed : goal.decreases-copy_boxed
decreases-copy_boxed l = 8 * size-TExpr l.e.now + 1

abbrev pub decreases-copy_pair : goal.decreases-copy_pair
decreases-copy_pair l = 8 * (max (size-TExpr l.first.now) (size-TExpr l.second.now)) + 2

abbrev pub decreases-copy_element : goal.decreases-copy_element
decreases-copy_element l = 8 * size-TExpr l.index.now + 2

abbrev pub decreases-copy_cell : goal.decreases-copy_cell
decreases-copy_cell l = 8 * (max (size-TExpr l.first.now) (size-TExpr l.second.now)) + 3

abbrev pub decreases-copy_reduction : goal.decreases-copy_reduction
decreases-copy_reduction l = 8 * size-TExpr l.body.now + 2

abbrev pub decreases-copy_part : goal.decreases-copy_part
decreases-copy_part l = 8 * size-TExpr l.part.now + 2

abbrev pub decreases-copy_bit_select : goal.decreases-copy_bit_select
decreases-copy_bit_select l = 8 * (max (size-TExpr l.base.now) (size-TExpr l.index.now)) + 3

abbrev pub decreases-copy_part_select : goal.decreases-copy_part_select
decreases-copy_part_select l = 8 * (max (size-TExpr l.base.now) (max (size-TExpr l.first.now) (size-TExpr l.last.now))) + 3

abbrev pub decreases-copy_unary : goal.decreases-copy_unary
decreases-copy_unary l = 8 * size-TExpr l.arg.now + 2

abbrev pub decreases-copy_binary : goal.decreases-copy_binary
decreases-copy_binary l = 8 * (max (size-TExpr l.left.now) (size-TExpr l.right.now)) + 3

abbrev pub decreases-copy_choice : goal.decreases-copy_choice
decreases-copy_choice l = 8 * (max (size-TExpr l.test.now) (max (size-TExpr l.yes.now) (size-TExpr l.no.now))) + 3

abbrev pub decreases-copy_inside : goal.decreases-copy_inside
decreases-copy_inside l = 8 * (max (size-TExpr l.left.now) (goal.size-copy_inside l)) + 5

abbrev pub decreases-copy_join : goal.decreases-copy_join
decreases-copy_join l = 8 * goal.size-copy_join l + 4

abbrev pub decreases-copy_replication : goal.decreases-copy_replication
decreases-copy_replication l = 8 * (max (size-TExpr l.count.now) (goal.size-copy_replication l)) + 4

abbrev pub decreases-copy_sign : goal.decreases-copy_sign
decreases-copy_sign l = 8 * size-TExpr l.arg.now + 2

abbrev pub decreases-copy_exprs : goal.decreases-copy_exprs
decreases-copy_exprs l = 8 * goal.size-copy_exprs l + 3

abbrev pub decreases-copy_ranges : goal.decreases-copy_ranges
decreases-copy_ranges l = 8 * goal.size-copy_ranges l + 4

abbrev pub decreases-copy_range : goal.decreases-copy_range
decreases-copy_range l = 8 * size-TRange l.range.now + 3

abbrev pub decreases-copy_bound : goal.decreases-copy_bound
decreases-copy_bound l = 8 * size-TBound l.bound.now + 2
