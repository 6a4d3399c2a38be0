use Rattle.std.proofs.lemmas.Result.{IfOk-weaker}
use Rattle.svr_tree.specs.StmtTree.{randomize_tree}
use Rattle.svr_elab_names.specs.Tables.{space_of}
use Rattle.svr_elab_stmt.specs.Seen.{stmt_part}
use Rattle.svr_elab_list.proofs.Forms.{call_there_is}
use Rattle.svr_elab_list.proofs.walk.call_made.Goals as goal

pub returns-clause-value : goal.returns-clause-value
returns-clause-value c =
    IfOk-weaker c.randomized.result _ _ (λ s h. call_there_is (space_of c.with_made-inside.result) _ (randomize_tree c.args.call.now) (stmt_part s) h c.with_made-inside.ensures.space) c.randomized.ensures.value
