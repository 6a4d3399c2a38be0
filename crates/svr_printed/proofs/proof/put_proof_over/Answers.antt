use Rattle.svr_stream.proofs.Putting.{puts_then}
use Rattle.svr_printed.proofs.proof.put_proof_over.Goals as goal

pub returns : goal.returns
returns g c = puts_then c.put.ensures (puts_then c.put_reason.ensures (puts_then c.put-2.ensures (puts_then c.put_unknowns.ensures (puts_then c.put_assumed.ensures (puts_then c.put_cnf.ensures c.put_refutation.ensures)))))
