use Rattle.std.proofs.Common.{map, ap}
use Rattle.svr_tree.specs.ItemTree.{item_trees}
use Rattle.svr_elab_names.specs.Tables.{space_of, prop_of}
use Rattle.svr_elab_list.proofs.Forms.{alone_is}
use Rattle.svr_elab_list.proofs.call.items_alone.Goals as goal

pub returns : goal.returns
returns c = alone_is (space_of c.args.names.now) _ c.items_with.result (item_trees c.args.list.now) c.items_with.ensures (ap (map prop_of) c.new-none.ensures.empty)
