use Rattle.std.proofs.Common.{arith}
use Rattle.svr_elab_order.proofs.Bounds.{names_step}
use Rattle.svr_elab_order.proofs.order.names_past.Goals as goal

pub loop-order-preserved : goal.loop-order-preserved
loop-order-preserved c = record {
  above =
      names_step c.args.orders.now c.loop-order.order-index c.order-item.result c.loop-order.names c.past.result c.past-in-loop-order.result c.larger-names.result
      c.as_slice.result.now c.as_slice-in-loop-order.result.now
      (omega arith) c.order-item.is c.loop-order.invariant.above c.as_slice.ensures c.as_slice-in-loop-order.ensures c.past.ensures.above c.past-in-loop-order.ensures.above
      (omega arith) (omega arith) (omega arith);
  small = omega arith;
}
