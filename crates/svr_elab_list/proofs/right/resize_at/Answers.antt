use Rattle.svr_elab_part.specs.Seen.{part_of}
use Rattle.svr_elab_type.specs.Seen.{constant_part}
use Rattle.svr_elab_stmt.specs.Seen.{stmt_part}
use Rattle.svr_elab_list.proofs.Forms.{resize_stmt_is}
use Rattle.svr_elab_list.proofs.right.resize_at.Goals as goal

pub returns-clause-value : goal.returns-clause-value
returns-clause-value c =
    let x = c.in_ok-target in
    resize_stmt_is (part_of c.args.target) (constant_part x.right) _ (stmt_part c.resize_stmt.result) (rw x.ensures.held at c.resize_stmt.ensures.value) (rw x.ensures.made at c.constant_at.ensures.value)
