use Rattle.std.proofs.Common.{refl}
use Rattle.svr_tree.specs.DeclTree.{type_tree}
use Rattle.svr_elab_names.specs.Tables.{space_of}
use Rattle.svr_elab_decl.specs.Seen.{used_part}
use Rattle.svr_elab_unit.proofs.Forms.{told_as, used_is}
use Rattle.svr_elab_unit.proofs.vars.type_behind.Goals as goal

pub returns : goal.returns
returns c = told_as used_part c.data_type.result _ _ c.data_type.ensures.value (used_is (space_of c.stmt_space-inside.result) _ (type_tree c.args.kind.now) _ refl c.stmt_space-inside.ensures.space)
