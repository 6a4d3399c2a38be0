use Rattle.std.proofs.Common.{◌≡◌, ◌+◌, ◌*◌, max, drop, length}
use Rattle.svr_tree.specs.declared.item.Item.{size-Item}
use Rattle.svr_tree.specs.declared.item.Set.{size-Set}
use Rattle.svr_tree.specs.ItemTree.{item_trees}
use Rattle.svr_elab_fault.specs.Refusals.{first_one}
use Rattle.svr_elab_names.specs.Tables.{space_of}
use Rattle.svr_elab_item.specs.Items as spec
use Rattle.svr_elab_item.specs.Seen.{items_part}
use Rattle.svr_elab_item.specs.Fits.{ItemsFit, ItemsLoopsFit}
use Rattle.svr_elab_set.proofs.walk.+item.Given as goal

abbrev pub invariant-items-loop-each : goal.invariant-items-loop-each
invariant-items-loop-each l = record {
  loops : ItemsLoopsFit (length l.names.loops.now) (item_trees (drop l.each-index l.list));
  literals : ItemsFit (item_trees (drop l.each-index l.list));
  known : spec.items first_one (space_of l.names) l.around (items_part l.part) (item_trees (drop l.each-index l.list))
      ≡ spec.items first_one (space_of l.names) l.around (spec.no_items first_one) (item_trees l.list);
}

abbrev pub decreases-item : goal.decreases-item
decreases-item l = 4 * size-Item l.item.now

abbrev pub decreases-implication : goal.decreases-implication
decreases-implication l = 4 * size-Set l.body.now + 2

abbrev pub decreases-branch : goal.decreases-branch
decreases-branch l = 4 * size-Set l.yes.now + 2

abbrev pub decreases-branch_else : goal.decreases-branch_else
decreases-branch_else l = 4 * max (size-Set l.yes.now) (size-Set l.no.now) + 2

abbrev pub decreases-foreach : goal.decreases-foreach
decreases-foreach l = 4 * size-Set l.body.now + 3

abbrev pub decreases-in_loops : goal.decreases-in_loops
decreases-in_loops l = 4 * size-Set l.body.now + 2

abbrev pub decreases-set : goal.decreases-set
decreases-set l = 4 * size-Set l.set.now + 1

abbrev pub decreases-items : goal.decreases-items
decreases-items l = 4 * goal.size-items l + 1
