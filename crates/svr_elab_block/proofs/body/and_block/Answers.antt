use Rattle.std.proofs.Common.{ap}
use Rattle.svr_tree.specs.ItemTree.{item_trees}
use Rattle.svr_tree.specs.DeclTree.{block_tree}
use Rattle.svr_elab_names.specs.Tables.{space_of}
use Rattle.svr_elab_item.specs.Seen.{items_part}
use Rattle.svr_elab_block.specs.Seen.{body_part}
use Rattle.svr_elab_block.proofs.Forms.{told, again_is, stands_is}
use Rattle.svr_elab_block.proofs.body.and_block.Goals as goal

pub returns-then-is_among : goal.returns-then-is_among
returns-then-is_among c =
    again_is (space_of c.args.names.now) c.outside.result (body_part c.args.part) (body_part c.with_fault.result) (block_tree c.args.block.now) (items_part c.in_ok-part.items) (item_trees c.as_slice.result.now) c.name.result.now c.is_among.result
    c.name.ensures (rw c.in_ok-part.ensures.held at c.is_among.ensures) c.if-is_among.true (rw c.in_ok-part.ensures.made at c.items-items.ensures) (ap item_trees c.as_slice.ensures) c.outside.ensures
    (rw c.in_ok-part.ensures.held at c.with_fault.ensures)

pub returns : goal.returns
returns c =
    told c.with_block.result c.with_block.ensures
    (λ p is.
    stands_is (space_of c.args.names.now) c.outside.result (body_part c.args.part) (body_part p) (block_tree c.args.block.now) (items_part c.in_ok-part.items) (item_trees c.as_slice.result.now) c.name.result.now c.is_among.result
    c.name.ensures (rw c.in_ok-part.ensures.held at c.is_among.ensures) c.if-is_among.false (rw c.in_ok-part.ensures.made at c.items-items.ensures) (ap item_trees c.as_slice.ensures) c.outside.ensures
    (rw c.in_ok-part.ensures.held at is))
