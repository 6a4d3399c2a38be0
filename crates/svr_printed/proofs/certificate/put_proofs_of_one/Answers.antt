use Rattle.svr_stream.proofs.Putting.{puts_then}
use Rattle.svr_printed.proofs.certificate.put_proofs_of_one.Goals as goal

pub returns : goal.returns
returns g c = puts_then c.put_cycle_proofs.ensures c.put_drop_proofs.ensures
