use Rattle.svr_stream.proofs.Putting.{puts_none, puts_as}
use Rattle.svr_run.proofs.Written.{with_text, without_text}
use Rattle.svr_run.proofs.tell.put_found.Goals as goal

pub returns-then-opts : goal.returns-then-opts
returns-then-opts g c = puts_as c.put_certificates.ensures (with_text c.args.opts.proofs _ c.if-opts.true)

pub returns-else-opts : goal.returns-else-opts
returns-else-opts g c = puts_as puts_none (without_text c.args.opts.proofs _ c.if-opts.false)
