use Rattle.svr_tree.specs.StmtTree.{randomize_tree}
use Rattle.svr_elab_names.specs.Tables.{space_of}
use Rattle.svr_elab_part.specs.Seen.{part_of}
use Rattle.svr_elab_stmt.specs.Seen.{stmt_part}
use Rattle.svr_elab_list.proofs.Forms.{answered_is}
use Rattle.svr_elab_list.proofs.right.answered.Goals as goal

pub returns-clause-value : goal.returns-clause-value
returns-clause-value c =
    answered_is (space_of c.args.names.now) (part_of c.args.target) (randomize_tree c.args.call.now) _ _ (stmt_part c.in_ok-right.right) (stmt_part c.behind.result)
    c.behind.ensures.value c.answer_fault-refused.ensures c.in_ok-right.ensures.value c.taker.ensures
