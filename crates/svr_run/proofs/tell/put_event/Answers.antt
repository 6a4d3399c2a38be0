use Rattle.svr_stream.proofs.Putting.{puts_then, puts_as}
use Rattle.svr_script.specs.Conflicts.{conflict_text}
use Rattle.svr_derived.proofs.Fronts.{front_then, front_longer}
use Rattle.svr_run.specs.Events.{end_in, event_of, names_in}
use Rattle.svr_run.proofs.Written.{failed_with}
use Rattle.svr_run.proofs.Pieces.{told_text}
use Rattle.svr_run.proofs.tell.put_event.Goals as goal

pub returns-in_err-put_proofs-clause-front : goal.returns-in_err-put_proofs-clause-front
returns-in_err-put_proofs-clause-front g c =
    failed_with c.from_residual.result _ (λ class. front_longer (conflict_text c.args.opts.proofs (event_of class c.args.told.now) (event_of class c.args.told.now).conflict) (front_then (c.put_line.ensures class (names_in c.args.told.now.conflict.now) (end_in c.args.told.now.conflict.now)) c.in_err-put_proofs.ensures.front))

pub returns-clause-whole : goal.returns-clause-whole
returns-clause-whole g c =
    λ class. puts_then (puts_then (c.put_line.ensures class (names_in c.args.told.now.conflict.now) (end_in c.args.told.now.conflict.now)) c.in_ok-put_proofs.ensures.whole) (puts_as c.put_contradiction.ensures (told_text c.args.opts.proofs class c.args.told.now))
