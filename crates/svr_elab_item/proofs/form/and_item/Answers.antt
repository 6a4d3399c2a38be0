use Rattle.std.proofs.Common.{refl}
use Rattle.svr_typed.specs.ItemTerm.{item_term}
use Rattle.svr_elab_item.specs.Seen.{item_part, items_part}
use Rattle.svr_elab_item.proofs.Lists.{more_seen}
use Rattle.svr_elab_item.proofs.Forms.{and_item_is}
use Rattle.svr_elab_item.proofs.form.and_item.Goals as goal

pub returns : goal.returns
returns c =
    and_item_is (items_part c.args.part) (item_part c.args.item) _ _
    (more_seen item_term c.args.part.trees c.in_ok-and_more.field-0 c.args.item.tree _ c.in_ok-and_more.ensures refl) c.earlier-fault.ensures
