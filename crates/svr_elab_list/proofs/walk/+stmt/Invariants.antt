use Rattle.std.proofs.Common.{◌≡◌, ◌≤◌, ◌+◌, ◌*◌, drop, take, length}
use Rattle.svr_limits.specs.declared.limit.TheConstants.{STATEMENT_LIMIT}
use Rattle.svr_tree.specs.declared.stmt.Stmt.{size-Stmt}
use Rattle.svr_tree.specs.StmtTree.{stmt_trees}
use Rattle.svr_elab_fault.specs.Refusals.{first_one}
use Rattle.svr_elab_names.specs.Tables.{space_of}
use Rattle.svr_elab_stmt.specs.Stmts as spec
use Rattle.svr_elab_stmt.specs.Seen.{stmts_part}
use Rattle.svr_elab_stmt.specs.Fits.{StmtsFit}
use Rattle.svr_elab_target.specs.Kept.{IsKept}
use Rattle.svr_elab_list.proofs.walk.+stmt.Given as goal

abbrev pub invariant-stmts-loop-each : goal.invariant-stmts-loop-each
invariant-stmts-loop-each l = record {
  fits : StmtsFit (length l.names.loops.now) (stmt_trees (drop l.each-index l.list));
  most : l.part.count ≤ STATEMENT_LIMIT + 1;
  still : IsKept (space_of l.names) l.flat;
  before : take (length l.initial.made.keys) l.made.keys ≡ l.initial.made.keys;
  known : spec.stmts first_one (space_of l.names) (stmts_part l.made.keys l.part) (stmt_trees (drop l.each-index l.list))
      ≡ spec.stmts first_one (space_of l.names) (spec.no_stmts first_one l.initial.made.keys) (stmt_trees l.list);
}

abbrev pub decreases-stmt : goal.decreases-stmt
decreases-stmt l = 4 * size-Stmt l.stmt.now

abbrev pub decreases-block : goal.decreases-block
decreases-block l = 4 * goal.size-block l + 2

abbrev pub decreases-repetition : goal.decreases-repetition
decreases-repetition l = 4 * size-Stmt l.body.now + 2

abbrev pub decreases-stmts : goal.decreases-stmts
decreases-stmts l = 4 * goal.size-stmts l + 1
