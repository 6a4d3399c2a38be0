use Rattle.svr_elab_part.specs.Seen.{part_of}
use Rattle.svr_elab_stmt.specs.Seen.{stmt_part}
use Rattle.svr_elab_list.proofs.Forms.{given_is}
use Rattle.svr_elab_unit.proofs.values.assigned.Goals as goal

pub returns-clause-value : goal.returns-clause-value
returns-clause-value c =
    let x = c.in_ok-target in
    given_is (part_of c.args.target) (part_of x.right) _ (stmt_part c.given.result) (rw x.ensures.held at c.given.ensures.value) (rw x.ensures.made at c.elab.ensures)
