use Rattle.svr_stream.proofs.Putting.{puts_then}
use Rattle.svr_printed.proofs.proof.put_log_over.Goals as goal

pub returns : goal.returns
returns g c = puts_then c.put.ensures (puts_then c.put-2.ensures c.put_log_behind.ensures)
