use Rattle.std.proofs.Common.{◌≡◌, ◌+◌, ◌*◌, max, map, take}
use Rattle.svr_typed.specs.declared.expr.TExpr.{size-TExpr}
use Rattle.svr_typed.specs.declared.expr.TRange.{size-TRange}
use Rattle.svr_typed.specs.declared.expr.TBound.{size-TBound}
use Rattle.svr_typed.specs.ExprTerm.{expr_term, range_term}
use Rattle.svr_effect.specs.Mentions as spec
use Rattle.svr_effect.specs.Named.{mentioned}
use Rattle.svr_effect.proofs.places.+by_places.Given as goal

abbrev pub invariant-placed_all-loop-e : goal.invariant-placed_all-loop-e
invariant-placed_all-loop-e l = map expr_term l.copies ≡ map (λ e. spec.by_places (mentioned l.names) (expr_term e)) (take l.e-index l.parts)

abbrev pub invariant-placed_ranges-loop-range : goal.invariant-placed_ranges-loop-range
invariant-placed_ranges-loop-range l = map range_term l.copies ≡ map (λ r. spec.range_by_places (mentioned l.names) (range_term r)) (take l.range-index l.set)

abbrev pub decreases-by_places : goal.decreases-by_places
decreases-by_places l = 8 * size-TExpr l.e.now + 1

abbrev pub decreases-placed_child : goal.decreases-placed_child
decreases-placed_child l = 8 * size-TExpr l.child.now + 2

abbrev pub decreases-placed_element : goal.decreases-placed_element
decreases-placed_element l = 8 * size-TExpr l.index.now + 3

abbrev pub decreases-placed_cell : goal.decreases-placed_cell
decreases-placed_cell l = 8 * (max (size-TExpr l.first.now) (size-TExpr l.second.now)) + 3

abbrev pub decreases-placed_reduction : goal.decreases-placed_reduction
decreases-placed_reduction l = 8 * size-TExpr l.body.now + 3

abbrev pub decreases-placed_part : goal.decreases-placed_part
decreases-placed_part l = 8 * size-TExpr l.part.now + 3

abbrev pub decreases-placed_bit : goal.decreases-placed_bit
decreases-placed_bit l = 8 * (max (size-TExpr l.base.now) (size-TExpr l.index.now)) + 3

abbrev pub decreases-placed_bits : goal.decreases-placed_bits
decreases-placed_bits l = 8 * (max (size-TExpr l.base.now) (max (size-TExpr l.first.now) (size-TExpr l.last.now))) + 3

abbrev pub decreases-placed_unary : goal.decreases-placed_unary
decreases-placed_unary l = 8 * size-TExpr l.arg.now + 3

abbrev pub decreases-placed_sign : goal.decreases-placed_sign
decreases-placed_sign l = 8 * size-TExpr l.arg.now + 3

abbrev pub decreases-placed_binary : goal.decreases-placed_binary
decreases-placed_binary l = 8 * (max (size-TExpr l.left.now) (size-TExpr l.right.now)) + 3

abbrev pub decreases-placed_choice : goal.decreases-placed_choice
decreases-placed_choice l = 8 * (max (size-TExpr l.test.now) (max (size-TExpr l.yes.now) (size-TExpr l.no.now))) + 3

abbrev pub decreases-placed_inside : goal.decreases-placed_inside
decreases-placed_inside l = 8 * (max (goal.size-placed_inside l) (size-TExpr l.left.now)) + 5

abbrev pub decreases-placed_join : goal.decreases-placed_join
decreases-placed_join l = 8 * goal.size-placed_join l + 4

abbrev pub decreases-placed_copies : goal.decreases-placed_copies
decreases-placed_copies l = 8 * (max (goal.size-placed_copies l) (size-TExpr l.count.now)) + 4

abbrev pub decreases-placed_all : goal.decreases-placed_all
decreases-placed_all l = 8 * goal.size-placed_all l + 3

abbrev pub decreases-placed_ranges : goal.decreases-placed_ranges
decreases-placed_ranges l = 8 * goal.size-placed_ranges l + 4

abbrev pub decreases-placed_range : goal.decreases-placed_range
decreases-placed_range l = 8 * size-TRange l.range.now + 3

abbrev pub decreases-placed_bound : goal.decreases-placed_bound
decreases-placed_bound l = 8 * size-TBound l.bound.now + 2
