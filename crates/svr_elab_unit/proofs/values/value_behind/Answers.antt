use Rattle.std.proofs.Common.{option_map, refl}
use Rattle.svr_tree.specs.DeclTree.{var_init_tree}
use Rattle.svr_elab_names.specs.Tables.{space_of}
use Rattle.svr_elab_stmt.specs.Seen.{stmts_part}
use Rattle.svr_elab_unit.proofs.Forms.{told_as, value_is}
use Rattle.svr_elab_unit.proofs.values.value_behind.Goals as goal

pub returns-clause-value : goal.returns-clause-value
returns-clause-value c =
    told_as (stmts_part c.and_value.new.made.keys) c.and_value.result _ _ c.and_value.ensures.value
    (value_is (space_of c.stmt_space-inside.result) _ (stmts_part c.args.made.now.keys c.args.stmts) c.args.var.name c.args.var.number c.args.var.stand (option_map var_init_tree c.args.init.now) _ refl c.stmt_space-inside.ensures.space)
