use Rattle.std.proofs.Common.{ap, sym}
use Rattle.svr_frame.specs.Frame.{frame_term}
use Rattle.svr_conflict.specs.declared.found.ConflictEnd.{ConflictEnd}
use Rattle.svr_script.specs.Conflicts.{spent_log}
use Rattle.svr_stream.proofs.Putting.{puts_as}
use Rattle.svr_printed.proofs.conflict.put_conflict_log.Goals as goal

pub returns-in-Spent : goal.returns-in-Spent
returns-in-Spent g c = puts_as c.put_spent_log.ensures (ap (λ (end : ConflictEnd). spent_log (frame_term c.args.frame.now) end) (sym c.in-Spent.is))
