use Rattle.std.proofs.Common.{ap, sym}
use Rattle.svr_frame.specs.Frame.{frame_term}
use Rattle.svr_conflict.specs.declared.found.ConflictEnd.{ConflictEnd}
use Rattle.svr_script.specs.Conflicts.{end_text}
use Rattle.svr_stream.proofs.Putting.{puts_as}
use Rattle.svr_printed.proofs.conflict.put_conflict.Goals as goal

pub returns-in-Spent : goal.returns-in-Spent
returns-in-Spent g c = puts_as c.put_spent.ensures (ap (λ (end : ConflictEnd). end_text c.args.proofs (frame_term c.args.frame.now) c.args.names.now end) (sym c.in-Spent.is))
