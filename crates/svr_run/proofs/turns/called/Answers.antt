use Rattle.std.proofs.Common.{◌∙◌, ap}
use Rattle.svr_typed.specs.StmtTerm.{stmt_term}
use Rattle.svr_run.proofs.Executed.{call_is}
use Rattle.svr_run.proofs.turns.called.Goals as goal

pub returns-in-Call : goal.returns-in-Call
returns-in-Call c = ap stmt_term c.in-Call.is ∙ call_is c.in-Call.call
