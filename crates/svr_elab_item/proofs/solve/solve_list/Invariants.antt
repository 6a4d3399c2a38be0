use Rattle.std.proofs.Common.{◌≡◌, drop}
use Rattle.svr_tree.specs.ExprTree.{expr_trees}
use Rattle.svr_elab_fault.specs.Refusals.{first_one}
use Rattle.svr_elab_names.specs.Tables.{space_of}
use Rattle.svr_elab_item.specs.Items as spec
use Rattle.svr_elab_item.specs.Seen.{solve_part}
use Rattle.svr_elab_item.proofs.solve.solve_list.Given as goal

abbrev pub invariant-loop-e : goal.invariant-loop-e
invariant-loop-e l =
    spec.solve_list first_one (space_of l.names) (solve_part l.side) (expr_trees (drop l.e-index l.list))
    ≡ spec.solve_list first_one (space_of l.names) (spec.no_names first_one) (expr_trees l.list)
