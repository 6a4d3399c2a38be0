use Rattle.svr_stream.proofs.Putting.{puts_then, puts_last}
use Rattle.svr_seq_lines.proofs.line.put_line.Goals as goal

pub returns : goal.returns
returns g c = puts_then c.put.ensures (puts_then c.put_number.ensures (puts_then c.put_end.ensures (puts_last c.put-2.ensures)))
