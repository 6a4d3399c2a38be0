use Rattle.svr_stream.proofs.Putting.{puts_then}
use Rattle.svr_printed.proofs.proof.put_size.Goals as goal

pub returns : goal.returns
returns g c = puts_then c.put_name.ensures c.put.ensures
