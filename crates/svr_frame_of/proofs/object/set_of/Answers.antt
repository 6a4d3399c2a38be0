use Rattle.std.proofs.Common.{arith}
use Rattle.std.proofs.lemmas.Grind.{common_steps}
use Rattle.svr_frame_of.proofs.Steps.{or_or, or_none}
use Rattle.svr_frame_of.proofs.object.set_of.Goals as goal

pub loop-prop-preserved : goal.loop-prop-preserved
loop-prop-preserved c = λ q. grind (arith, common_steps, or_or, c.loop-prop.invariant q, c.in_ok-insert.ensures q)

pub returns : goal.returns
returns c = λ q. grind (arith, common_steps, or_none, c.loop-prop.invariant q)
