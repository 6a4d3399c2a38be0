use Rattle.std.proofs.Common.{ℕ, List, subst, ◌∙◌, arith}
use Rattle.svr_elab_order.proofs.Sources.{PutBefore, none_before, none_length, item_step}
use Rattle.svr_elab_order.proofs.graph.items_before.Goals as goal

pub loop-order-init : goal.loop-order-init
loop-order-init c = record {
  item = omega arith;
  length_is = none_length c.args.names c.in_ok-lists.lists.items c.in_ok-lists.ensures;
  before = none_before c.args.names c.in_ok-lists.lists.items c.in_ok-lists.ensures;
}

pub loop-order-preserved : goal.loop-order-preserved
loop-order-preserved c =
    let P : List ℕ → Type 0 = λ later. PutBefore c.loop-order.lists.items c.put_before.new.lists.items c.loop-order.item later in
    record {
      item = omega arith;
      length_is = c.in_ok-put_before.ensures.length ∙ c.loop-order.invariant.length_is;
      before =
          item_step c.args.names c.loop-order.order-index c.loop-order.lists.items c.put_before.new.lists.items c.args.orders.now c.order-item.result c.loop-order.item
          (omega arith) c.order-item.is c.loop-order.invariant.item c.loop-order.invariant.length_is c.loop-order.invariant.before
          (subst P c.as_slice.ensures c.in_ok-put_before.ensures.before);
    }
