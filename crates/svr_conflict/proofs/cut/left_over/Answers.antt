use Rattle.std.proofs.Common.{arith}
use Rattle.svr_conflict.proofs.Cuts.{taken_off, all_taken_off}
use Rattle.svr_conflict.proofs.cut.left_over.Goals as goal

pub loop-count-preserved : goal.loop-count-preserved
loop-count-preserved c = taken_off c.args.counts.now c.loop-count.count-index c.loop-count.left c.saturating_sub-left.result _ (omega arith) (omega arith) c.loop-count.invariant

pub returns : goal.returns
returns c = all_taken_off c.args.counts.now c.loop-count.count-index c.loop-count.left _ (omega arith) c.loop-count.invariant
