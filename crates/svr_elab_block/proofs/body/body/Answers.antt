use Rattle.std.proofs.Common.{◌≡◌, ◌+◌, List, length, map, drop, subst}
use Rattle.svr_tree.specs.DeclTree.{ClassItemTree, class_item_tree}
use Rattle.svr_elab_fault.specs.Refusals.{first_one}
use Rattle.svr_elab_names.specs.Tables.{space_of}
use Rattle.svr_elab_block.specs.Blocks as spec
use Rattle.svr_elab_block.specs.Seen.{body_part}
use Rattle.svr_elab_block.specs.Fits.{BodyFits}
use Rattle.svr_elab_block.proofs.Forms.{rest_is, items_more}
use Rattle.svr_elab_block.proofs.body.body.Goals as goal

pub loop-item-preserved : goal.loop-item-preserved
loop-item-preserved c =
    let n = space_of c.args.names.now in
    let list = c.args.class.now.items in
    let i = c.loop-item.item-index in
    let t = c.item-item.result in
    let p = body_part c.loop-item.part in
    let whole = spec.body_items first_one n (spec.no_body first_one) (map class_item_tree list) in
    let rest = rw c.as_slice-item-items.ensures at (rest_is class_item_tree c.as_slice-item-items.result.now i t c.loop-item-test.true c.item-item.is) in
    let Fits : List ClassItemTree → Type 0 = λ ts. BodyFits (length c.args.names.now.loops.now) ts in
    let Known : List ClassItemTree → Type 0 = λ ts. spec.body_items first_one n p ts ≡ whole in
    record {
      fits = (subst Fits rest c.loop-item.invariant.fits).1;
      known = items_more n p (body_part c.in_ok-part.part) whole (class_item_tree t) (map class_item_tree (drop (i + 1) list)) c.in_ok-part.ensures (subst Known rest c.loop-item.invariant.known);
    }
