use Rattle.std.proofs.Common.{◌≡◌, ◌≤◌, ◌+◌, drop, map, length}
use Rattle.svr_limits.specs.declared.limit.TheConstants.{STATEMENT_LIMIT}
use Rattle.svr_tree.specs.DeclTree.{var_declarator_tree}
use Rattle.svr_elab_fault.specs.Refusals.{first_one}
use Rattle.svr_elab_names.specs.Tables.{space_of}
use Rattle.svr_elab_unit.specs.Vars as spec
use Rattle.svr_elab_unit.specs.Seen.{valued_part}
use Rattle.svr_elab_unit.specs.Fits.{InitsFit}
use Rattle.svr_elab_unit.proofs.values.all_valued.Given as goal

abbrev pub invariant-loop-declarator : goal.invariant-loop-declarator
invariant-loop-declarator l = record {
  fits : InitsFit (length l.names.loops.now) (map var_declarator_tree (drop l.declarator-index l.list));
  few : length l.part.vars.entries ≤ length l.fn.start.vars.entries + l.declarator-index;
  most : l.part.stmts.count ≤ STATEMENT_LIMIT + 1;
  same : spec.all_valued first_one (space_of l.names) (valued_part l.made.keys l.part) l.stand (map var_declarator_tree (drop l.declarator-index l.list))
      ≡ spec.all_valued first_one (space_of l.names) (valued_part l.initial.made.keys l.fn.start) l.stand (map var_declarator_tree l.list);
}
