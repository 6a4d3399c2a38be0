use Rattle.std.proofs.Common.{◌≡◌, ◌+◌, drop, length}
use Rattle.svr_tree.specs.ExprTree.{expr_trees}
use Rattle.svr_elab_fault.specs.Refusals.{first_one}
use Rattle.svr_elab_names.specs.Tables.{space_of}
use Rattle.svr_elab_stmt.specs.Stmts as spec
use Rattle.svr_elab_stmt.specs.Seen.{values_part}
use Rattle.svr_elab_stmt.specs.Fits.{ValuesFit, values_in}
use Rattle.svr_elab_stmt.proofs.pattern.values.Given as goal

abbrev pub invariant-loop-e : goal.invariant-loop-e
invariant-loop-e l = record {
  many : l.values.many + values_in (expr_trees (drop l.e-index l.list)) ≡ values_in (expr_trees l.list);
  fits : ValuesFit (length l.names.loops.now) (expr_trees (drop l.e-index l.list));
  same : spec.values first_one (space_of l.names) l.members (values_part l.values) (expr_trees (drop l.e-index l.list))
      ≡ spec.values first_one (space_of l.names) l.members (spec.no_values first_one) (expr_trees l.list);
}
