use Rattle.svr_answer.proofs.Loads.{told, nothing_told}
use Rattle.svr_answer.proofs.made.tell.Goals as goal

pub returns-in-Ok : goal.returns-in-Ok
returns-in-Ok g c = told c.args.count c.args.counts c.status_of.result c.finish.result c.in-Ok.line.items _ _ _ _ c.status_of.ensures c.in-Ok.ensures (rw c.deref.ensures.value at c.finish.ensures.ends) c.finish.ensures.faults

pub returns-in-Err : goal.returns-in-Err
returns-in-Err g c = nothing_told c.args.count c.args.counts _ _
