use Rattle.svr_stream.proofs.Putting.{puts_then, puts_last}
use Rattle.svr_printed.proofs.proof.put_end.Goals as goal

pub returns : goal.returns
returns g c = puts_then c.put_steps.ensures (puts_then c.put_goal.ensures (puts_last c.put.ensures))
