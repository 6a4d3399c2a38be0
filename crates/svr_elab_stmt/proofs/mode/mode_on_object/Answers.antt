use Rattle.svr_elab_names.specs.Tables.{space_of}
use Rattle.svr_elab_part.specs.Seen.{part_of}
use Rattle.svr_elab_stmt.specs.Seen.{stmt_part}
use Rattle.svr_elab_target.specs.Seen.{object_seen, path_seen}
use Rattle.svr_elab_stmt.proofs.Forms.{mode_on_is}
use Rattle.svr_elab_stmt.proofs.mode.mode_on_object.Goals as goal

pub returns-clause-value : goal.returns-clause-value
returns-clause-value c =
    mode_on_is (space_of c.args.names.now) (path_seen c.args.path) c.args.kind (object_seen c.args.object) _ (part_of c.args.on) (stmt_part c.mode_on.result)
    (rw c.in_ok-on.ensures.held at c.mode_on.ensures.value) (rw c.in_ok-on.ensures.made at c.mode_member-member.ensures.number)
