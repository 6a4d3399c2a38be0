use Rattle.std.proofs.Common.{◌≡◌, [], drop}
use Rattle.svr_tree.specs.ExprTree.{expr_trees}
use Rattle.svr_elab_names.specs.Tables.{space_of}
use Rattle.svr_elab_block.specs.Blocks as spec
use Rattle.svr_elab_block.proofs.solve.numbers.Given as goal

abbrev pub invariant-loop-e : goal.invariant-loop-e
invariant-loop-e l = spec.numbers (space_of l.names) l.numbers (expr_trees (drop l.e-index l.list)) ≡ spec.numbers (space_of l.names) [] (expr_trees l.list)
