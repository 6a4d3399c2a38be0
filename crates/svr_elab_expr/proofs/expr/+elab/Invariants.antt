use Rattle.std.proofs.Common.{◌≡◌, ◌+◌, ◌*◌, max, drop, length}
use Rattle.svr_tree.specs.declared.expr.Expr.{size-Expr}
use Rattle.svr_tree.specs.declared.expr.Range.{size-Range}
use Rattle.svr_tree.specs.declared.expr.Bound.{size-Bound}
use Rattle.svr_tree.specs.ExprTree.{expr_trees, range_trees}
use Rattle.svr_elab_fault.specs.Refusals.{first_one}
use Rattle.svr_elab_names.specs.Tables.{space_of}
use Rattle.svr_elab_part.specs.Elab as spec
use Rattle.svr_elab_part.specs.Seen.{parts_of, ranges_part_of}
use Rattle.svr_elab_part.specs.Fits.{AllFit, AllLoopsFit, RangesFit, RangesLoopsFit}
use Rattle.svr_elab_expr.proofs.expr.+elab.Given as goal

abbrev pub decreases-elab : goal.decreases-elab
decreases-elab l = 8 * size-Expr l.e.now + 1

abbrev pub decreases-value : goal.decreases-value
decreases-value l = 8 * size-Expr l.e.now + 2

abbrev pub decreases-index : goal.decreases-index
decreases-index l = 8 * max (size-Expr l.base.now) (size-Expr l.first.now) + 3

abbrev pub decreases-slice : goal.decreases-slice
decreases-slice l = 8 * max (size-Expr l.base.now) (max (size-Expr l.first.now) (size-Expr l.last.now)) + 3

abbrev pub decreases-unary : goal.decreases-unary
decreases-unary l = 8 * size-Expr l.arg.now + 3

abbrev pub decreases-conversion : goal.decreases-conversion
decreases-conversion l = 8 * size-Expr l.arg.now + 3

abbrev pub decreases-parenthesized : goal.decreases-parenthesized
decreases-parenthesized l = 8 * size-Expr l.arg.now + 3

abbrev pub decreases-concatenation : goal.decreases-concatenation
decreases-concatenation l = 8 * goal.size-concatenation l + 4

abbrev pub decreases-binary : goal.decreases-binary
decreases-binary l = 8 * max (size-Expr l.left.now) (size-Expr l.right.now) + 3

abbrev pub decreases-choice : goal.decreases-choice
decreases-choice l = 8 * max (size-Expr l.test.now) (max (size-Expr l.yes.now) (size-Expr l.no.now)) + 3

abbrev pub decreases-membership : goal.decreases-membership
decreases-membership l = 8 * max (goal.size-membership l) (size-Expr l.left.now) + 6

abbrev pub decreases-replication : goal.decreases-replication
decreases-replication l = 8 * max (goal.size-replication l) (size-Expr l.count.now) + 4

abbrev pub decreases-reduction : goal.decreases-reduction
decreases-reduction l = 8 * max (size-Expr l.array.now) (size-Expr l.body.now) + 4

abbrev pub decreases-reduced : goal.decreases-reduced
decreases-reduced l = 8 * size-Expr l.body.now + 3

abbrev pub decreases-parts : goal.decreases-parts
decreases-parts l = 8 * goal.size-parts l + 3

abbrev pub decreases-ranges : goal.decreases-ranges
decreases-ranges l = 8 * goal.size-ranges l + 5

abbrev pub decreases-range : goal.decreases-range
decreases-range l = 8 * size-Range l.r.now + 4

abbrev pub decreases-bound : goal.decreases-bound
decreases-bound l = 8 * size-Bound l.b.now + 3

abbrev pub invariant-parts-loop-e : goal.invariant-parts-loop-e
invariant-parts-loop-e l = record {
  loops : AllLoopsFit (length l.names.loops.now) (expr_trees (drop l.e-index l.list));
  literals : AllFit (expr_trees (drop l.e-index l.list));
  known : spec.parts first_one (space_of l.names) (parts_of l.known) (expr_trees (drop l.e-index l.list))
      ≡ spec.parts first_one (space_of l.names) (spec.no_parts first_one) (expr_trees l.list);
}

abbrev pub invariant-ranges-loop-r : goal.invariant-ranges-loop-r
invariant-ranges-loop-r l = record {
  loops : RangesLoopsFit (length l.names.loops.now) (range_trees (drop l.r-index l.list));
  literals : RangesFit (range_trees (drop l.r-index l.list));
  known : spec.ranges first_one (space_of l.names) (ranges_part_of l.known) (range_trees (drop l.r-index l.list))
      ≡ spec.ranges first_one (space_of l.names) (spec.no_ranges first_one) (range_trees l.list);
}
