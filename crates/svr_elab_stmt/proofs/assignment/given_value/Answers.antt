use Rattle.svr_elab_part.specs.Seen.{part_of}
use Rattle.svr_elab_stmt.specs.Seen.{stmt_part}
use Rattle.svr_elab_stmt.proofs.Forms.{assigned_is}
use Rattle.svr_elab_stmt.proofs.assignment.given_value.Goals as goal

pub returns-clause-value : goal.returns-clause-value
returns-clause-value c = assigned_is (stmt_part c.assigned.result) (part_of c.args.target) (part_of c.plain.result) _ c.assigned.ensures.value c.plain.ensures
