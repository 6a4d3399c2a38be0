use Rattle.svr_tree.specs.ItemTree.{item_trees}
use Rattle.svr_elab_names.specs.Tables.{space_of}
use Rattle.svr_elab_item.specs.Seen.{items_part}
use Rattle.svr_elab_block.proofs.Forms.{told, line_is}
use Rattle.svr_elab_block.proofs.place.in_line.Goals as goal

pub returns : goal.returns
returns c =
    told c.items.result c.items.ensures
    (λ p is.
    line_is (space_of c.args.names.now) (space_of c.in_class-inside.result) c.outside.result c.args.class (items_part p) (item_trees c.args.set.now)
    is c.outside.ensures c.in_class-inside.ensures.space)
