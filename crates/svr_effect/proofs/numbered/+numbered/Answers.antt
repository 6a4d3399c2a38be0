use Rattle.std.proofs.Common.{arith}
use Rattle.svr_typed.specs.ExprTerm.{expr_term, range_term}
use Rattle.svr_script.specs.Numbered as spec
use Rattle.svr_effect.proofs.Copies.{exprs_done, ranges_done, one_more}
use Rattle.svr_effect.proofs.numbered.+numbered.Goals as goal

pub numbered_all-loop-e-preserved : goal.numbered_all-loop-e-preserved
numbered_all-loop-e-preserved t c =
    one_more expr_term (λ e. spec.numbered (expr_term e)) c.loop-e.copies c.in_ok-copies.copies c.args.parts.now c.loop-e.e-index c.e-item.result c.numbered.result c.loop-e-test.true c.e-item.is c.numbered.ensures c.in_ok-copies.ensures
    c.loop-e.invariant

pub numbered_all-returns : goal.numbered_all-returns
numbered_all-returns t c = exprs_done c.loop-e.copies c.args.parts.now c.loop-e.e-index (omega arith) c.loop-e.invariant

pub numbered_ranges-loop-range-preserved : goal.numbered_ranges-loop-range-preserved
numbered_ranges-loop-range-preserved t c =
    one_more range_term (λ r. spec.numbered_range (range_term r)) c.loop-range.copies c.in_ok-copies.copies c.args.set.now c.loop-range.range-index c.range-item.result c.numbered_range.result c.loop-range-test.true c.range-item.is
    c.numbered_range.ensures c.in_ok-copies.ensures c.loop-range.invariant

pub numbered_ranges-returns : goal.numbered_ranges-returns
numbered_ranges-returns t c = ranges_done c.loop-range.copies c.args.set.now c.loop-range.range-index (omega arith) c.loop-range.invariant
