use Rattle.std.proofs.Common.{◌≡◌, ◌+◌, ◌*◌, drop}
use Rattle.svr_tree.specs.declared.stmt.Stmt.{size-Stmt}
use Rattle.svr_tree.specs.StmtTree.{stmt_trees}
use Rattle.svr_elab_names.specs.Tables.{space_of}
use Rattle.svr_elab_unit.specs.Listed as spec
use Rattle.svr_elab_unit.proofs.listed.+listed.Given as goal

abbrev pub invariant-listed_in_all-loop-stmt : goal.invariant-listed_in_all-loop-stmt
invariant-listed_in_all-loop-stmt l = record {
  same : spec.all_listed (space_of l.names) l.homes.keys (stmt_trees (drop l.stmt-index l.list))
      ≡ spec.all_listed (space_of l.names) l.initial.homes.keys (stmt_trees l.list);
}

abbrev pub decreases-listed : goal.decreases-listed
decreases-listed l = 2 * size-Stmt l.stmt.now

abbrev pub decreases-listed_in_all : goal.decreases-listed_in_all
decreases-listed_in_all l = 2 * goal.size-listed_in_all l + 1
