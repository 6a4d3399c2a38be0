use Rattle.std.proofs.Common.{map, refl, ap}
use Rattle.svr_tree.specs.StmtTree.{stmt_tree}
use Rattle.svr_tree.specs.ScriptTree.{unit_tree}
use Rattle.svr_elab_names.specs.Tables.{space_of}
use Rattle.svr_elab_stmt.specs.Seen.{stmts_part}
use Rattle.svr_elab_unit.specs.Seen.{valued_part}
use Rattle.svr_elab_unit.proofs.Forms.{told_as}
use Rattle.svr_elab_unit.proofs.Runs.{run_is}
use Rattle.svr_elab_unit.proofs.top.run_behind.Goals as goal

pub returns : goal.returns
returns c =
    told_as (stmts_part c.tops.new.made.keys) c.tops.result _ _ c.tops.ensures
    (run_is (space_of c.args.names.now) c.args.stands.now (unit_tree c.args.unit.now) c.args.made.now.keys (valued_part _ c.in_ok-valued.valued) _ _
    c.requires.made c.in_ok-valued.ensures.value refl (ap (map stmt_tree) c.as_slice.ensures))
