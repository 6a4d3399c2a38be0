use Rattle.std.proofs.Common.{refl}
use Rattle.svr_tree.specs.DeclTree.{var_init_tree}
use Rattle.svr_elab_names.specs.Tables.{space_of}
use Rattle.svr_elab_part.specs.Seen.{part_of}
use Rattle.svr_elab_stmt.specs.Seen.{stmt_part}
use Rattle.svr_elab_unit.proofs.Forms.{told_as, init_is}
use Rattle.svr_elab_unit.proofs.values.init_made.Goals as goal

pub returns-clause-value : goal.returns-clause-value
returns-clause-value c =
    told_as stmt_part c.initialized.result _ _ c.initialized.ensures.value
    (init_is (space_of c.with_made-inside.result) _ (part_of c.in_ok-left.left) _ (var_init_tree c.args.init.now) _ refl c.with_made-inside.ensures.space c.in_ok-left.ensures)
