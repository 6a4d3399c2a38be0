use Rattle.svr_stream.proofs.Putting.{puts_then, puts_last}
use Rattle.svr_printed.proofs.conflict.put_set.Goals as goal

pub returns : goal.returns
returns g c = puts_then c.put.ensures (puts_then c.put_members.ensures (puts_last c.put-2.ensures))
