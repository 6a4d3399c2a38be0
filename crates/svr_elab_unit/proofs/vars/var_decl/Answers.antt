use Rattle.std.proofs.Common.{map, refl, ap}
use Rattle.svr_tree.specs.DeclTree.{type_tree, var_declarator_tree}
use Rattle.svr_elab_names.specs.Tables.{space_of}
use Rattle.svr_elab_decl.specs.Seen.{used_part}
use Rattle.svr_elab_unit.specs.Seen.{vars_part}
use Rattle.svr_elab_unit.proofs.Forms.{told_as, decl_is}
use Rattle.svr_elab_unit.proofs.vars.var_decl.Goals as goal

pub returns-clause-value : goal.returns-clause-value
returns-clause-value c =
    let x = c.in_ok-part in
    told_as vars_part c.and_vars.result _ _ c.and_vars.ensures.value
    (decl_is (space_of c.args.names.now) (vars_part c.args.part) (vars_part c.in_ok-typed.typed) _ (used_part x.used) _ (type_tree c.args.decl.now.kind) (map var_declarator_tree c.args.decl.now.vars) _
    refl (rw x.ensures.held at c.in_ok-typed.ensures.value) c.stand_of-stand.ensures (rw x.ensures.made at c.type_behind-used.ensures) (ap (map var_declarator_tree) c.as_slice.ensures))

pub returns-clause-length : goal.returns-clause-length
returns-clause-length c =
    let same = rw c.in_ok-part.ensures.held at c.in_ok-typed.ensures.vars in
    rw (same, c.as_slice.ensures) at c.and_vars.ensures.length
