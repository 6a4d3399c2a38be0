use Rattle.svr_status.proofs.Lists.{concat_step}
use Rattle.svr_status.proofs.line.join.Goals as goal

pub loop-part-preserved : goal.loop-part-preserved
loop-part-preserved c = concat_step _ _ _ _ _ c.loop-part-test.true c.loop-part.invariant c.in_ok-extend_from_slice.ensures.items
