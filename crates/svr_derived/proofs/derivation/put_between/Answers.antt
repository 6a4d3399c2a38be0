use Rattle.svr_stream.proofs.Putting.{puts_then, puts_last}
use Rattle.svr_derived.proofs.derivation.put_between.Goals as goal

pub returns : goal.returns
returns g c = puts_then c.put.ensures (puts_then c.put_reason.ensures (puts_then c.put-2.ensures (puts_then c.put_unknowns.ensures (puts_then c.put-3.ensures (puts_last c.put-4.ensures)))))
