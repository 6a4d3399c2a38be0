use Rattle.std.proofs.Common.{map, ap, refl}
use Rattle.svr_tree.specs.DeclTree.{var_tree}
use Rattle.svr_tree.specs.ScriptTree.{unit_tree}
use Rattle.svr_elab_names.specs.Tables.{space_of}
use Rattle.svr_elab_unit.specs.Seen.{vars_part}
use Rattle.svr_elab_unit.specs.Fits.{declared_in}
use Rattle.svr_elab.proofs.Joined.{vars_are, var_types_there, few_vars, none_yet, length_after, few_after}
use Rattle.svr_elab.proofs.whole.unit_vars.Goals as goal

pub var_decls-requires-clause-vars : goal.var_decls-requires-clause-vars
var_decls-requires-clause-vars c =
    let u = c.args.unit.now in
    few_vars _ 0 (declared_in (map var_tree u.outer)) _ u.outer (none_yet _ c.none-start.ensures.length) c.as_slice.ensures (few_after _ _ c.requires.fits.few) refl

pub var_decls-requires-clause-fits : goal.var_decls-requires-clause-fits
var_decls-requires-clause-fits c = var_types_there _ _ c.args.unit.now.outer c.requires.loops c.as_slice.ensures c.requires.fits.outer_types

pub var_decls-requires-2-clause-vars : goal.var_decls-requires-2-clause-vars
var_decls-requires-2-clause-vars c =
    let u = c.args.unit.now in
    few_vars _ (declared_in (map var_tree u.outer)) (declared_in (map var_tree u.inner)) _ u.inner
    (length_after _ _ _ u.outer c.none-start.ensures.length c.in_ok-outer.ensures.length c.as_slice.ensures) c.as_slice-2.ensures c.requires.fits.few refl

pub var_decls-requires-2-clause-fits : goal.var_decls-requires-2-clause-fits
var_decls-requires-2-clause-fits c = var_types_there _ _ c.args.unit.now.inner c.requires.loops c.as_slice-2.ensures c.requires.fits.inner_types

pub returns-clause-value : goal.returns-clause-value
returns-clause-value c =
    vars_are (space_of c.args.names.now) (vars_part c.none-start.result) (vars_part c.in_ok-outer.outer) (vars_part c.in_ok-all.all) (unit_tree c.args.unit.now) _ _
    c.none-start.ensures.value c.in_ok-outer.ensures.value c.in_ok-all.ensures.value (ap (map var_tree) c.as_slice.ensures) (ap (map var_tree) c.as_slice-2.ensures)
