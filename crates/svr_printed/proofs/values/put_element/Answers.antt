use Rattle.svr_stream.proofs.Putting.{puts_then}
use Rattle.svr_printed.proofs.values.put_element.Goals as goal

pub returns : goal.returns
returns g c = puts_then c.put_value.ensures c.put_comma.ensures
