use Rattle.std.proofs.Common.{◌≡◌, ◌≤◌, ◌+◌, drop, map, length}
use Rattle.svr_tree.specs.DeclTree.{var_tree}
use Rattle.svr_elab_fault.specs.Refusals.{first_one}
use Rattle.svr_elab_names.specs.Tables.{space_of}
use Rattle.svr_elab_unit.specs.Vars as spec
use Rattle.svr_elab_unit.specs.Seen.{vars_part}
use Rattle.svr_elab_unit.specs.Fits.{VarTypesFit, declared_in}
use Rattle.svr_elab_unit.proofs.vars.var_decls.Given as goal

abbrev pub invariant-loop-decl : goal.invariant-loop-decl
invariant-loop-decl l = record {
  fits : VarTypesFit (length l.names.loops.now) (map var_tree (drop l.decl-index l.list));
  few : length l.part.vars.entries + declared_in (map var_tree (drop l.decl-index l.list)) ≤ length l.fn.start.vars.entries + declared_in (map var_tree l.list);
  same : spec.var_decls first_one (space_of l.names) (vars_part l.part) (map var_tree (drop l.decl-index l.list))
      ≡ spec.var_decls first_one (space_of l.names) (vars_part l.fn.start) (map var_tree l.list);
}
