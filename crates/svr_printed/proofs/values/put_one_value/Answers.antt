use Rattle.svr_stream.proofs.Putting.{puts_then, puts_last}
use Rattle.svr_printed.proofs.values.put_one_value.Goals as goal

pub returns : goal.returns
returns g c = puts_then c.put.ensures (puts_then c.put_declared.ensures (puts_then c.put-2.ensures (puts_last c.put_numbers.ensures)))
