use Rattle.svr_stream.proofs.Putting.{puts_then, puts_last}
use Rattle.svr_printed.proofs.proof.put_slot_line.Goals as goal

pub returns : goal.returns
returns g c = puts_then (puts_then c.put.ensures c.put_slot.ensures) (puts_then c.put_lits.ensures (puts_last c.put-2.ensures))
