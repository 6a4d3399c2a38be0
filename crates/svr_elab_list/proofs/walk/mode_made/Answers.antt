use Rattle.std.proofs.lemmas.Result.{IfOk-weaker}
use Rattle.svr_tree.specs.StmtTree.{mode_tree}
use Rattle.svr_elab_names.specs.Tables.{space_of}
use Rattle.svr_elab_stmt.specs.Seen.{stmt_part}
use Rattle.svr_elab_target.proofs.Kept.{kept_behind}
use Rattle.svr_elab_list.proofs.Forms.{mode_there_is}
use Rattle.svr_elab_list.proofs.walk.mode_made.Goals as goal

pub returns-clause-value : goal.returns-clause-value
returns-clause-value c =
    IfOk-weaker c.mode_stmt.result _ _ (λ s h. mode_there_is (space_of c.with_made-inside.result) _ (mode_tree c.args.mode.now) (stmt_part s) h c.with_made-inside.ensures.space) c.mode_stmt.ensures.value

pub returns-clause-kept : goal.returns-clause-kept
returns-clause-kept c = kept_behind (space_of c.with_made-inside.result) _ _ _ c.with_made-inside.ensures.space c.mode_stmt.ensures.kept
