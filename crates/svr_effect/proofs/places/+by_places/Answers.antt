use Rattle.std.proofs.Common.{arith}
use Rattle.svr_typed.specs.ExprTerm.{expr_term, range_term}
use Rattle.svr_effect.specs.Mentions as spec
use Rattle.svr_effect.specs.Named.{mentioned}
use Rattle.svr_effect.proofs.Copies.{one_more}
use Rattle.svr_effect.proofs.PlacedLists.{exprs_done, ranges_done}
use Rattle.svr_effect.proofs.places.+by_places.Goals as goal

pub placed_all-loop-e-preserved : goal.placed_all-loop-e-preserved
placed_all-loop-e-preserved t c =
    one_more expr_term (λ e. spec.by_places (mentioned c.args.names.now) (expr_term e)) c.loop-e.copies c.in_ok-copies.copies c.args.parts.now c.loop-e.e-index c.e-item.result c.by_places.result c.loop-e-test.true c.e-item.is c.by_places.ensures c.in_ok-copies.ensures
    c.loop-e.invariant

pub placed_all-returns : goal.placed_all-returns
placed_all-returns t c = exprs_done (mentioned c.args.names.now) c.loop-e.copies c.args.parts.now c.loop-e.e-index (omega arith) c.loop-e.invariant

pub placed_ranges-loop-range-preserved : goal.placed_ranges-loop-range-preserved
placed_ranges-loop-range-preserved t c =
    one_more range_term (λ r. spec.range_by_places (mentioned c.args.names.now) (range_term r)) c.loop-range.copies c.in_ok-copies.copies c.args.set.now c.loop-range.range-index c.range-item.result c.placed_range.result c.loop-range-test.true c.range-item.is
    c.placed_range.ensures c.in_ok-copies.ensures c.loop-range.invariant

pub placed_ranges-returns : goal.placed_ranges-returns
placed_ranges-returns t c = ranges_done (mentioned c.args.names.now) c.loop-range.copies c.args.set.now c.loop-range.range-index (omega arith) c.loop-range.invariant
