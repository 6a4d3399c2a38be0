use Rattle.std.proofs.Common.{◌≡◌, drop, length}
use Rattle.svr_tree.specs.ExprTree.{expr_trees}
use Rattle.svr_elab_fault.specs.Refusals.{first_one}
use Rattle.svr_elab_names.specs.Tables.{space_of}
use Rattle.svr_elab_part.specs.Fits.{AllFit, AllLoopsFit}
use Rattle.svr_elab_item.specs.Items as spec
use Rattle.svr_elab_item.specs.Seen.{unique_part}
use Rattle.svr_elab_set.proofs.walk.unique.Given as goal

abbrev pub invariant-loop-e : goal.invariant-loop-e
invariant-loop-e l = record {
  loops : AllLoopsFit (length l.names.loops.now) (expr_trees (drop l.e-index l.list));
  literals : AllFit (expr_trees (drop l.e-index l.list));
  known : spec.members first_one (space_of l.names) (unique_part l.known) (expr_trees (drop l.e-index l.list))
      ≡ spec.members first_one (space_of l.names) (spec.no_members first_one) (expr_trees l.list);
}
