use Rattle.svr_stream.proofs.Putting.{puts_none, puts_as}
use Rattle.svr_printed.proofs.Rows.{with_text, without_text}
use Rattle.svr_printed.proofs.conflict.put_wanted_log.Goals as goal

pub returns-then-wanted : goal.returns-then-wanted
returns-then-wanted g c = puts_as c.put_spent_log.ensures (with_text c.args.wanted _ c.if-wanted.true)

pub returns-else-wanted : goal.returns-else-wanted
returns-else-wanted g c = puts_as puts_none (without_text c.args.wanted _ c.if-wanted.false)
