use Rattle.std.proofs.Common.{Option, ap, map}
use Rattle.std.specs.Option.{option_to_list}
use Rattle.svr_seq.specs.SeqTerm.{ActTerm}
use Rattle.svr_seq.specs.Line.{statement}
use Rattle.svr_seq.proofs.Pushed.{pushed_of}
use Rattle.svr_seq.proofs.line.enter.Goals as goal

pub returns-in_ok-push-clause-tasks : goal.returns-in_ok-push-clause-tasks
returns-in_ok-push-clause-tasks c = pushed_of c.args.stack.now _ _ _ c.in_ok-push.ensures.ok (ap (λ (o : Option ActTerm). map statement (option_to_list o)) c.in-Some.ensures.branch)
