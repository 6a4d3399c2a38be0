use Rattle.svr_stream.proofs.Putting.{puts_then, puts_as, puts_whole, all_written, front_written, cause_of}
use Rattle.svr_run.proofs.Pieces.{told_log}
use Rattle.svr_run.proofs.tell.note.Goals as goal

pub returns-clause-whole : goal.returns-clause-whole
returns-clause-whole g c = λ class. all_written c.finish.result _ _ _ _ _ (puts_whole c.finish.result c.new-text.ensures (puts_then c.put_logs.ensures (puts_as c.put_contradiction_log.ensures (told_log class c.args.told.now))) c.finish.ensures)

pub returns-clause-front : goal.returns-clause-front
returns-clause-front g c = λ class. front_written c.finish.result _ _ _ _ _ (puts_whole c.finish.result c.new-text.ensures (puts_then c.put_logs.ensures (puts_as c.put_contradiction_log.ensures (told_log class c.args.told.now))) c.finish.ensures)

pub returns-clause-cause : goal.returns-clause-cause
returns-clause-cause g c = cause_of c.finish.result _ _ _ _ _ (puts_whole c.finish.result c.new-text.ensures (puts_then c.put_logs.ensures c.put_contradiction_log.ensures) c.finish.ensures)
