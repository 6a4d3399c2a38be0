use Rattle.svr_stream.proofs.Putting.{puts_then, puts_last}
use Rattle.svr_printed.proofs.proof.put_log_behind.Goals as goal

pub returns : goal.returns
returns g c = puts_then c.put.ensures (puts_then c.put_unknowns.ensures (puts_then c.put_cnf.ensures (puts_then c.put_steps_of.ensures (puts_then c.put-2.ensures (puts_then c.put_number.ensures (puts_last c.put-3.ensures))))))
