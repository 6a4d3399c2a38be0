use Rattle.std.proofs.Common.{map}
use Rattle.std.proofs.lemmas.Result.{IfOk-weaker}
use Rattle.svr_tree.specs.ItemTree.{item_trees}
use Rattle.svr_elab_names.specs.Tables.{space_of, prop_of}
use Rattle.svr_elab_item.specs.Seen.{items_part}
use Rattle.svr_elab_list.proofs.Forms.{items_are}
use Rattle.svr_elab_list.proofs.call.items_with.Goals as goal

pub returns : goal.returns
returns c =
    IfOk-weaker c.items.result _ _
    (λ p h. items_are (space_of c.args.names.now) (space_of c.in_line-inside.result) (map prop_of c.args.props.now.entries) c.outside.result (items_part p) (item_trees c.args.list.now)
    h c.in_line-inside.ensures.space c.outside.ensures)
    c.items.ensures
