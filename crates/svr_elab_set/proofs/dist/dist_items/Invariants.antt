use Rattle.std.proofs.Common.{◌≡◌, drop, length}
use Rattle.svr_tree.specs.ItemTree.{dist_item_trees}
use Rattle.svr_elab_fault.specs.Refusals.{first_one}
use Rattle.svr_elab_names.specs.Tables.{space_of}
use Rattle.svr_elab_item.specs.Items as spec
use Rattle.svr_elab_item.specs.Seen.{dist_part}
use Rattle.svr_elab_item.specs.Fits.{DistItemsFit, DistItemsLoopsFit}
use Rattle.svr_elab_set.proofs.dist.dist_items.Given as goal

abbrev pub invariant-loop-member : goal.invariant-loop-member
invariant-loop-member l = record {
  loops : DistItemsLoopsFit (length l.names.loops.now) (dist_item_trees (drop l.member-index l.list));
  literals : DistItemsFit (dist_item_trees (drop l.member-index l.list));
  known : spec.dist_items first_one (space_of l.names) (dist_part l.dist) (dist_item_trees (drop l.member-index l.list))
      ≡ spec.dist_items first_one (space_of l.names) (spec.no_dist first_one) (dist_item_trees l.list);
}
