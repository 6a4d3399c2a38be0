use Rattle.svr_stream.proofs.Putting.{puts_then, puts_last}
use Rattle.svr_printed.proofs.line.put_line.Goals as goal

pub returns : goal.returns
returns g c = λ class names conflict. puts_then c.put.ensures (puts_then c.put_number.ensures (puts_then c.put-2.ensures (puts_then c.put-3.ensures (puts_then c.put-4.ensures (puts_then c.put_answer.ensures (puts_last c.put-5.ensures))))))
