use Rattle.std.proofs.Common.{rules}
use Rattle.svr_elab_stmt.proofs.Forms.{more_of}
use Rattle.svr_elab_stmt.proofs.list.and_stmt.Goals as goal

pub returns-clause-value : goal.returns-clause-value
returns-clause-value c = λ made. search (rules, more_of)
