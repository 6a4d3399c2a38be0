use Rattle.svr_stream.proofs.Putting.{puts_then, puts_as}
use Rattle.svr_seq_lines.proofs.line.put_name.Goals as goal

pub returns : goal.returns
returns g c = puts_then c.put.ensures (puts_as c.put-2.ensures c.name.ensures)
