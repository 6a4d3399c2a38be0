use Rattle.std.proofs.lemmas.Result.{IfOk-weaker}
use Rattle.svr_tree.specs.StmtTree.{right_tree}
use Rattle.svr_elab_names.specs.Tables.{space_of}
use Rattle.svr_elab_part.specs.Seen.{part_of}
use Rattle.svr_elab_stmt.specs.Seen.{stmt_part}
use Rattle.svr_elab_list.proofs.Forms.{assign_is}
use Rattle.svr_elab_list.proofs.right.assign.Goals as goal

pub returns-clause-value : goal.returns-clause-value
returns-clause-value c =
    IfOk-weaker c.assignment.result _ _ (λ s h. assign_is (space_of c.args.names.now) (part_of c.in_ok-left.left) _ (right_tree c.args.right.now) (stmt_part s) h c.in_ok-left.ensures) c.assignment.ensures.value
