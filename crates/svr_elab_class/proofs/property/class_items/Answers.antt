use Rattle.std.proofs.Common.{◌≡◌, ◌+◌, List, map, drop, subst}
use Rattle.svr_tree.specs.DeclTree.{ClassItemTree, class_item_tree}
use Rattle.svr_elab_fault.specs.Refusals.{first_one}
use Rattle.svr_elab_decl.specs.Fits.{ClassItemsFit}
use Rattle.svr_elab_class.specs.Classes.{class_items}
use Rattle.svr_elab_class.specs.Seen.{head_of, class_part}
use Rattle.svr_elab_class.proofs.Forms.{rest_is, items_more}
use Rattle.svr_elab_class.proofs.property.class_items.Goals as goal

pub loop-item-preserved : goal.loop-item-preserved
loop-item-preserved c =
    let h = head_of c.args.head.now in
    let list = c.args.list.now in
    let i = c.loop-item.item-index in
    let t = c.item-item.result in
    let p = class_part c.loop-item.part in
    let whole = class_items first_one h (class_part c.args.start) (map class_item_tree list) in
    let rest = rest_is class_item_tree list i t c.loop-item-test.true c.item-item.is in
    let Fits : List ClassItemTree → Type 0 = λ ts. ClassItemsFit 0 ts in
    let Known : List ClassItemTree → Type 0 = λ ts. class_items first_one h p ts ≡ whole in
    record {
      fits = (subst Fits rest c.loop-item.invariant.fits).1;
      known = items_more h p (class_part c.in_ok-part.part) whole (class_item_tree t) (map class_item_tree (drop (i + 1) list)) c.in_ok-part.ensures (subst Known rest c.loop-item.invariant.known);
    }
