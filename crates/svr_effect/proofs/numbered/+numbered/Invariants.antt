use Rattle.std.proofs.Common.{◌≡◌, ◌+◌, ◌*◌, max, map, take}
use Rattle.svr_typed.specs.declared.expr.TExpr.{size-TExpr}
use Rattle.svr_typed.specs.declared.expr.TRange.{size-TRange}
use Rattle.svr_typed.specs.declared.expr.TBound.{size-TBound}
use Rattle.svr_typed.specs.ExprTerm.{expr_term, range_term}
use Rattle.svr_script.specs.Numbered as spec
use Rattle.svr_effect.proofs.numbered.+numbered.Given as goal

abbrev pub invariant-numbered_all-loop-e : goal.invariant-numbered_all-loop-e
invariant-numbered_all-loop-e l = map expr_term l.copies ≡ map (λ e. spec.numbered (expr_term e)) (take l.e-index l.parts)

abbrev pub invariant-numbered_ranges-loop-range : goal.invariant-numbered_ranges-loop-range
invariant-numbered_ranges-loop-range l = map range_term l.copies ≡ map (λ r. spec.numbered_range (range_term r)) (take l.range-index l.set)

abbrev pub decreases-numbered : goal.decreases-numbered
decreases-numbered l = 8 * size-TExpr l.e.now + 1

abbrev pub decreases-numbered_child : goal.decreases-numbered_child
decreases-numbered_child l = 8 * size-TExpr l.child.now + 2

abbrev pub decreases-numbered_element : goal.decreases-numbered_element
decreases-numbered_element l = 8 * size-TExpr l.index.now + 3

abbrev pub decreases-numbered_cell : goal.decreases-numbered_cell
decreases-numbered_cell l = 8 * (max (size-TExpr l.first.now) (size-TExpr l.second.now)) + 3

abbrev pub decreases-numbered_reduction : goal.decreases-numbered_reduction
decreases-numbered_reduction l = 8 * size-TExpr l.body.now + 3

abbrev pub decreases-numbered_part : goal.decreases-numbered_part
decreases-numbered_part l = 8 * size-TExpr l.part.now + 2

abbrev pub decreases-numbered_bit : goal.decreases-numbered_bit
decreases-numbered_bit l = 8 * (max (size-TExpr l.base.now) (size-TExpr l.index.now)) + 3

abbrev pub decreases-numbered_bits : goal.decreases-numbered_bits
decreases-numbered_bits l = 8 * (max (size-TExpr l.base.now) (max (size-TExpr l.first.now) (size-TExpr l.last.now))) + 3

abbrev pub decreases-numbered_unary : goal.decreases-numbered_unary
decreases-numbered_unary l = 8 * size-TExpr l.arg.now + 3

abbrev pub decreases-numbered_sign : goal.decreases-numbered_sign
decreases-numbered_sign l = 8 * size-TExpr l.arg.now + 3

abbrev pub decreases-numbered_binary : goal.decreases-numbered_binary
decreases-numbered_binary l = 8 * (max (size-TExpr l.left.now) (size-TExpr l.right.now)) + 3

abbrev pub decreases-numbered_choice : goal.decreases-numbered_choice
decreases-numbered_choice l = 8 * (max (size-TExpr l.test.now) (max (size-TExpr l.yes.now) (size-TExpr l.no.now))) + 3

abbrev pub decreases-numbered_inside : goal.decreases-numbered_inside
decreases-numbered_inside l = 8 * (max (goal.size-numbered_inside l) (size-TExpr l.left.now)) + 5

abbrev pub decreases-numbered_join : goal.decreases-numbered_join
decreases-numbered_join l = 8 * goal.size-numbered_join l + 4

abbrev pub decreases-numbered_copies : goal.decreases-numbered_copies
decreases-numbered_copies l = 8 * (max (goal.size-numbered_copies l) (size-TExpr l.count.now)) + 4

abbrev pub decreases-numbered_all : goal.decreases-numbered_all
decreases-numbered_all l = 8 * goal.size-numbered_all l + 3

abbrev pub decreases-numbered_ranges : goal.decreases-numbered_ranges
decreases-numbered_ranges l = 8 * goal.size-numbered_ranges l + 4

abbrev pub decreases-numbered_range : goal.decreases-numbered_range
decreases-numbered_range l = 8 * size-TRange l.range.now + 3

abbrev pub decreases-numbered_bound : goal.decreases-numbered_bound
decreases-numbered_bound l = 8 * size-TBound l.bound.now + 2
