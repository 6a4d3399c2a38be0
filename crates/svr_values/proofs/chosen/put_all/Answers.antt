use Rattle.std.proofs.Common.{arith}
use Rattle.std.specs.Prelude.{slice_index, slice_index_or, []}
use Rattle.svr_values.proofs.FirstNumbers.{none_put, one_put}
use Rattle.svr_values.proofs.chosen.put_all.Goals as goal

pub loop-at-init : goal.loop-at-init
loop-at-init c = record { within = omega arith; numbers = λ p i. none_put c.args.chosen.now p i (slice_index (slice_index_or c.args.rows p []) i) }

pub loop-at-preserved : goal.loop-at-preserved
loop-at-preserved c = record {
  within = omega (arith, c.loop-at.invariant.within);
  numbers = λ p i. one_put c.args.chosen.now c.loop-at.at _ c.loop-at-test.true c.loop-at.invariant.within p i _ _ (slice_index (slice_index_or c.args.rows p []) i) (c.in_ok-put.ensures p i) (c.loop-at.invariant.numbers p i);
}
