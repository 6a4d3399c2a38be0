use Rattle.std.proofs.Common.{◌≡◌, ◌<◌, ◌+◌, ◌*◌, max, [], ◌∷◌, ◌++◌, length, drop}
use Rattle.svr_typed.specs.declared.expr.TExpr.{size-TExpr}
use Rattle.svr_typed.specs.declared.expr.TRange.{size-TRange}
use Rattle.svr_typed.specs.declared.expr.TBound.{size-TBound}
use Rattle.svr_typed.specs.ExprTerm.{RangeTerms, expr_term, expr_terms, range_terms}
use Rattle.svr_eval.specs.Reading.{reading_of}
use Rattle.svr_eval.specs.Typed.{RangesAreTyped, RangesCanRead}
use Rattle.svr_eval.specs.Operator.{fold_of}
use Rattle.svr_eval.specs.Value as spec
use Rattle.svr_eval.proofs.expr.+value.Given as goal

abbrev pub decreases-value_at : goal.decreases-value_at
decreases-value_at l = 8 * size-TExpr l.e.now + 1

abbrev pub decreases-value : goal.decreases-value
decreases-value l = 8 * size-TExpr l.e.now + 2

abbrev pub decreases-selected : goal.decreases-selected
decreases-selected l = 8 * max (size-TExpr l.base.now) (size-TExpr l.last.now) + 3

abbrev pub decreases-cell : goal.decreases-cell
decreases-cell l = 8 * max (size-TExpr l.first.now) (size-TExpr l.second.now) + 3

abbrev pub decreases-reduced : goal.decreases-reduced
decreases-reduced l = 8 * size-TExpr l.body.now + 3

abbrev pub invariant-reduced-loop-i : goal.invariant-reduced-loop-i
invariant-reduced-loop-i l = record {
  value : l.total.value ≡ fold_of l.fn.op (spec.size_of (expr_term l.body)) l.i (λ i. spec.alone (reading_of l.a) (l.env ++ i ∷ []) (expr_term l.body));
  width : l.total.width ≡ spec.size_of (expr_term l.body);
}

abbrev pub decreases-replicated : goal.decreases-replicated
decreases-replicated l = 8 * max (goal.size-replicated l) (size-TExpr l.count.now) + 8

abbrev pub decreases-unary : goal.decreases-unary
decreases-unary l = 8 * size-TExpr l.x.now + 3

abbrev pub decreases-binary : goal.decreases-binary
decreases-binary l = 8 * max (size-TExpr l.left.now) (size-TExpr l.right.now) + 3

abbrev pub decreases-compares : goal.decreases-compares
decreases-compares l = 8 * max (size-TExpr l.left.now) (size-TExpr l.right.now) + 2

abbrev pub decreases-fits_some : goal.decreases-fits_some
decreases-fits_some l = 8 * max (size-TExpr l.left.now) (goal.size-fits_some l) + 6

abbrev pub decreases-fits : goal.decreases-fits
decreases-fits l = 8 * max (size-TExpr l.left.now) (size-TRange l.range.now) + 5

abbrev pub decreases-equals_member : goal.decreases-equals_member
decreases-equals_member l = 8 * max (size-TExpr l.left.now) (size-TExpr l.member.now) + 4

abbrev pub decreases-is_from : goal.decreases-is_from
decreases-is_from l = 8 * max (size-TExpr l.left.now) (size-TBound l.bound.now) + 4

abbrev pub decreases-is_up_to : goal.decreases-is_up_to
decreases-is_up_to l = 8 * max (size-TExpr l.left.now) (size-TBound l.bound.now) + 4

abbrev pub decreases-joined : goal.decreases-joined
decreases-joined l = 8 * goal.size-joined l + 7

abbrev pub invariant-fits_some-loop-range : goal.invariant-fits_some-loop-range
invariant-fits_some-loop-range l =
    let found = λ (members : RangeTerms). spec.fits_some (reading_of l.a) l.env (spec.operand_of (reading_of l.a) l.env (expr_term l.left)) members in
    record {
      typed : RangesAreTyped (range_terms (drop l.range-index l.set));
      reads : RangesCanRead (reading_of l.a) (length l.env) (range_terms (drop l.range-index l.set));
      same : found (range_terms (drop l.range-index l.set)) ≡ found (range_terms l.set);
    }

abbrev pub invariant-joined-loop-at : goal.invariant-joined-loop-at
invariant-joined-loop-at l = record {
  within : l.at < length l.parts;
  value : l.whole.value ≡ spec.joined (reading_of l.a) l.env (expr_terms (drop l.at l.parts));
  width : l.whole.width ≡ spec.sizes (expr_terms (drop l.at l.parts));
}

abbrev pub decreases-joined-loop-at : goal.decreases-joined-loop-at
decreases-joined-loop-at l = l.at
