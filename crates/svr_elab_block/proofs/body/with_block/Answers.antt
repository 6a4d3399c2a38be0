use Rattle.std.proofs.Common.{ap}
use Rattle.svr_tree.specs.ItemTree.{item_trees}
use Rattle.svr_elab_names.specs.Tables.{space_of}
use Rattle.svr_elab_item.specs.Seen.{items_part}
use Rattle.svr_elab_block.specs.Seen.{body_part}
use Rattle.svr_elab_block.proofs.Forms.{block_is}
use Rattle.svr_elab_block.proofs.body.with_block.Goals as goal

pub returns : goal.returns
returns c =
    let made = c.in_ok-part.ensures.made in
    let declared = rw made at c.both.ensures.first in
    let known = rw made at c.both.ensures.second in
    rw c.in_ok-part.ensures.held
    (block_is (space_of c.args.names.now) c.args.block.now.name (body_part c.args.part) (items_part c.args.items) c.name-name.result.now _ (item_trees c.as_slice.result.now) (item_trees c.args.block.now.items)
    _ _ _ _ _
    c.name-name.ensures (rw (rw declared at c.both-declared.ensures.first) at c.with_name-own.ensures) (rw (rw declared at c.both-declared.ensures.second) at c.with_name-named.ensures)
    (rw (rw known at c.both-known.ensures.first) at c.with_typed-blocks.ensures) (rw (rw known at c.both-known.ensures.second) at c.and_orders-orders.ensures)
    (ap item_trees c.as_slice.ensures) c.earlier-fault.ensures)
