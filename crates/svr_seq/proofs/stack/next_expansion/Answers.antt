use Rattle.std.proofs.Common.{arith}
use Rattle.svr_seq.proofs.Pushed.{first_expansion}
use Rattle.svr_seq.proofs.stack.next_expansion.Goals as goal

pub returns-clause-tasks : goal.returns-clause-tasks
returns-clause-tasks c = first_expansion c.args.prod c.args.times c.args.stack.now _ (omega arith) c.in_ok-push.ensures.ok
