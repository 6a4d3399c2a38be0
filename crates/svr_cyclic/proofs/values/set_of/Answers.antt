use Rattle.std.proofs.Common.{arith}
use Rattle.std.proofs.lemmas.Grind.{common_steps}
use Rattle.svr_cyclic.proofs.Lists.{or_or, or_none}
use Rattle.svr_cyclic.proofs.values.set_of.Goals as goal

pub loop-value-preserved : goal.loop-value-preserved
loop-value-preserved c = λ q. grind (arith, common_steps, or_or, c.loop-value.invariant q, c.in_ok-insert.ensures q)

pub returns : goal.returns
returns c = λ q. grind (arith, common_steps, or_none, c.loop-value.invariant q)
