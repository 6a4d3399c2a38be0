use Rattle.std.proofs.lemmas.Result.{IfOk-weaker}
use Rattle.svr_tree.specs.StmtTree.{randomize_tree}
use Rattle.svr_elab_names.specs.Tables.{space_of}
use Rattle.svr_elab_stmt.specs.Seen.{stmt_part}
use Rattle.svr_elab_target.specs.Seen.{path_seen}
use Rattle.svr_elab_list.proofs.Forms.{randomized_is}
use Rattle.svr_elab_list.proofs.call.randomized.Goals as goal

pub returns-clause-value : goal.returns-clause-value
returns-clause-value c =
    IfOk-weaker c.call_of.result _ _
    (λ s h. randomized_is (space_of c.args.names.now) c.args.answer (randomize_tree c.args.call.now) (path_seen c.object_path-path.result) (stmt_part s) h c.object_path-path.ensures)
    c.call_of.ensures.value
