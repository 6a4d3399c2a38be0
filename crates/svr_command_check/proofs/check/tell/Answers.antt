use Rattle.svr_command_check.proofs.Checks.{line_told, no_line_told}
use Rattle.svr_command_check.proofs.check.tell.Goals as goal

pub returns-in-Ok-clause-told : goal.returns-in-Ok-clause-told
returns-in-Ok-clause-told g c = line_told c.args.said c.status_of.result c.finish.result c.in-Ok.line.items _ _ _ _ c.status_of.ensures c.in-Ok.ensures (rw c.deref.ensures.value at c.finish.ensures.ends)

pub returns-in-Err-clause-told : goal.returns-in-Err-clause-told
returns-in-Err-clause-told g c = no_line_told c.args.said _ _
