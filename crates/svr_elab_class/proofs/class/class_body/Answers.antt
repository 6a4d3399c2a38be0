use Rattle.std.proofs.Common.{map}
use Rattle.svr_tree.specs.DeclTree.{class_item_tree}
use Rattle.svr_elab_class.specs.Seen.{head_of, class_part}
use Rattle.svr_elab_class.proofs.Forms.{told, body_is}
use Rattle.svr_elab_class.proofs.class.class_body.Goals as goal

pub returns : goal.returns
returns c =
    told c.class_items.result c.class_items.ensures
    (λ p is. body_is (head_of c.args.head.now) (class_part p) (class_part c.in_ok-start.start) (map class_item_tree c.args.items.now) is c.in_ok-start.ensures)
