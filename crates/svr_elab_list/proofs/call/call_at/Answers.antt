use Rattle.std.proofs.Common.{option_map}
use Rattle.svr_tree.specs.ItemTree.{item_trees}
use Rattle.svr_elab_names.specs.Tables.{space_of}
use Rattle.svr_elab_item.specs.Seen.{items_part}
use Rattle.svr_elab_stmt.specs.Seen.{stmt_part}
use Rattle.svr_elab_target.specs.Seen.{object_seen, path_seen}
use Rattle.svr_elab_list.proofs.Forms.{call_is}
use Rattle.svr_elab_list.proofs.call.call_at.Goals as goal

pub returns-clause-value : goal.returns-clause-value
returns-clause-value c =
    call_is (space_of c.args.names.now) (path_seen c.args.path) c.args.answer c.args.args.now (option_map item_trees c.args.set.now) (object_seen c.args.object) _ _ (items_part c.in_ok-list.set) (stmt_part c.call_on.result)
    c.call_on.ensures.value (rw c.in_ok-list.ensures.first at c.call_list-named.ensures) c.in_ok-refused.ensures (rw c.in_ok-list.ensures.second at c.in_line_items.ensures)
