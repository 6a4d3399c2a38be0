use Rattle.svr_tree.specs.ExprTree.{expr_tree}
use Rattle.svr_elab_names.specs.Tables.{space_of}
use Rattle.svr_elab_part.specs.Seen.{part_of}
use Rattle.svr_elab_item.specs.Seen.{item_part, dist_part}
use Rattle.svr_elab_set.proofs.Forms.{dealt_is}
use Rattle.svr_elab_set.proofs.walk.dealt.Goals as goal

pub returns : goal.returns
returns c =
    dealt_is (space_of c.args.names.now) c.args.around c.args.soft c.args.at (item_part c.plain_item.result) (part_of c.in_ok-part.part) (dist_part c.in_ok-part.members)
    (expr_tree c.args.e.now) c.args.dist.now c.as_slice.result.now c.plain_item.ensures
    (rw c.in_ok-part.ensures.first at c.value-part.ensures) (rw c.in_ok-part.ensures.second at c.dist_items.ensures) c.as_slice.ensures
