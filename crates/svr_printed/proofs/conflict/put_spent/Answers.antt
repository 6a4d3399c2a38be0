use Rattle.svr_stream.proofs.Putting.{puts_then}
use Rattle.svr_printed.proofs.conflict.put_spent.Goals as goal

pub returns : goal.returns
returns g c = puts_then c.put.ensures c.put_wanted_log.ensures
