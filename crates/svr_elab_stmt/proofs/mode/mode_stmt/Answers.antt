use Rattle.svr_tree.specs.StmtTree.{mode_tree}
use Rattle.svr_elab_names.specs.Tables.{space_of}
use Rattle.svr_elab_part.specs.Seen.{part_of}
use Rattle.svr_elab_stmt.specs.Seen.{stmt_part}
use Rattle.svr_elab_target.specs.Seen.{path_seen}
use Rattle.svr_elab_stmt.proofs.Forms.{told, mode_stmt_is}
use Rattle.svr_elab_stmt.proofs.mode.mode_stmt.Goals as goal

pub returns-clause-value : goal.returns-clause-value
returns-clause-value c =
    told c.mode_of.result c.mode_of.ensures.value
    (λ s is.
    mode_stmt_is (space_of c.args.names.now) (mode_tree c.args.mode.now) (path_seen c.object_path-path.result) (part_of c.in_ok-on.on) (stmt_part s)
    is c.object_path-path.ensures c.in_ok-on.ensures)
