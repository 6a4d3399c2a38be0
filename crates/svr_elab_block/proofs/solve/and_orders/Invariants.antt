use Rattle.std.proofs.Common.{◌≡◌, drop}
use Rattle.svr_tree.specs.ItemTree.{item_trees}
use Rattle.svr_elab_names.specs.Tables.{space_of}
use Rattle.svr_elab_block.specs.Blocks as spec
use Rattle.svr_elab_block.proofs.solve.and_orders.Given as goal

abbrev pub invariant-loop-item : goal.invariant-loop-item
invariant-loop-item l =
    spec.orders (space_of l.names) l.block l.orders (item_trees (drop l.item-index l.items)) ≡ spec.orders (space_of l.names) l.block l.fn.orders (item_trees l.items)
