use Rattle.svr_stream.proofs.Putting.{puts_then, puts_last}
use Rattle.svr_printed.proofs.line.put_one.Goals as goal

pub returns : goal.returns
returns g c = puts_then c.put.ensures (puts_then c.put_after.ensures (puts_then c.put_cycles.ensures (puts_last c.put_all_dropped.ensures)))
