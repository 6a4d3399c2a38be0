use Rattle.svr_stream.proofs.Putting.{puts_then}
use Rattle.svr_printed.proofs.values.put_bracketed.Goals as goal

pub returns : goal.returns
returns g c = puts_then (puts_then c.put.ensures c.put_elements.ensures) c.put-2.ensures
