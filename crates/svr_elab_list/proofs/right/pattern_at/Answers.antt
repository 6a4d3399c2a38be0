use Rattle.svr_elab_part.specs.Seen.{part_of}
use Rattle.svr_elab_stmt.specs.Seen.{stmt_part, values_part}
use Rattle.svr_elab_list.proofs.Forms.{pattern_stmt_is}
use Rattle.svr_elab_list.proofs.right.pattern_at.Goals as goal

pub returns-clause-value : goal.returns-clause-value
returns-clause-value c =
    let x = c.in_ok-target in
    pattern_stmt_is (part_of c.args.target) c.args.at (values_part x.right) _ (stmt_part c.pattern_stmt.result) (rw x.ensures.held at c.pattern_stmt.ensures.value) (rw x.ensures.made at c.values-right.ensures)
