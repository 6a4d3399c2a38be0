use Rattle.std.proofs.Common.{refl}
use Rattle.svr_eval.proofs.examples.bitwise_is_as_worked_out.Goals as goal

pub returns : goal.returns
unfolding lib.Count.ones
returns c = refl
