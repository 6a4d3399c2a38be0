use Rattle.std.proofs.Common.{◌≡◌, ◌≤◌, ◌+◌, drop, map, length}
use Rattle.svr_limits.specs.declared.limit.TheConstants.{STATEMENT_LIMIT}
use Rattle.svr_tree.specs.DeclTree.{var_tree}
use Rattle.svr_elab_fault.specs.Refusals.{first_one}
use Rattle.svr_elab_names.specs.Tables.{space_of}
use Rattle.svr_elab_unit.specs.Vars as spec
use Rattle.svr_elab_unit.specs.Seen.{valued_part}
use Rattle.svr_elab_unit.specs.Fits.{VarValuesFit, declared_in}
use Rattle.svr_elab_unit.proofs.values.decls_valued.Given as goal

abbrev pub invariant-loop-decl : goal.invariant-loop-decl
invariant-loop-decl l = record {
  place : l.place ≡ l.decl-index;
  fits : VarValuesFit (length l.names.loops.now) (map var_tree (drop l.decl-index l.list));
  few : length l.part.vars.entries + declared_in (map var_tree (drop l.decl-index l.list)) ≤ length l.fn.start.vars.entries + declared_in (map var_tree l.list);
  most : l.part.stmts.count ≤ STATEMENT_LIMIT + 1;
  same : spec.decls_valued first_one (space_of l.names) (valued_part l.made.keys l.part) (drop l.place l.stands) (map var_tree (drop l.decl-index l.list))
      ≡ spec.decls_valued first_one (space_of l.names) (valued_part l.initial.made.keys l.fn.start) l.stands (map var_tree l.list);
}
