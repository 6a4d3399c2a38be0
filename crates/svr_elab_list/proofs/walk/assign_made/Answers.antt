use Rattle.std.proofs.lemmas.Result.{IfOk-weaker}
use Rattle.svr_tree.specs.ExprTree.{expr_tree}
use Rattle.svr_tree.specs.StmtTree.{right_tree}
use Rattle.svr_elab_names.specs.Tables.{space_of}
use Rattle.svr_elab_stmt.specs.Seen.{stmt_part}
use Rattle.svr_elab_list.proofs.Forms.{assign_there}
use Rattle.svr_elab_list.proofs.walk.assign_made.Goals as goal

pub returns-clause-value : goal.returns-clause-value
returns-clause-value c =
    IfOk-weaker c.assign.result _ _ (λ s h. assign_there (space_of c.with_made-inside.result) _ (expr_tree c.args.target.now) (right_tree c.args.right.now) (stmt_part s) h c.with_made-inside.ensures.space) c.assign.ensures.value
