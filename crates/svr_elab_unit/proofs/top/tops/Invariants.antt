use Rattle.std.proofs.Common.{◌≡◌, ◌≤◌, ◌+◌, drop, map, length}
use Rattle.svr_limits.specs.declared.limit.TheConstants.{STATEMENT_LIMIT}
use Rattle.svr_tree.specs.StmtTree.{stmt_tree}
use Rattle.svr_elab_fault.specs.Refusals.{first_one}
use Rattle.svr_elab_names.specs.Tables.{space_of}
use Rattle.svr_elab_stmt.specs.Seen.{stmts_part}
use Rattle.svr_elab_target.specs.Kept.{IsKept}
use Rattle.svr_elab_unit.specs.Run as spec
use Rattle.svr_elab_unit.specs.Fits.{AllStmtsFit}
use Rattle.svr_elab_unit.proofs.top.tops.Given as goal

abbrev pub invariant-loop-each : goal.invariant-loop-each
invariant-loop-each l = record {
  fits : AllStmtsFit (length l.names.loops.now) (map stmt_tree (drop l.each-index l.list));
  most : l.part.count ≤ STATEMENT_LIMIT + 1;
  still : IsKept (space_of l.names) l.flat;
  same : spec.tops first_one (space_of l.names) (stmts_part l.made.keys l.part) (map stmt_tree (drop l.each-index l.list))
      ≡ spec.tops first_one (space_of l.names) (stmts_part l.initial.made.keys l.fn.start) (map stmt_tree l.list);
}
