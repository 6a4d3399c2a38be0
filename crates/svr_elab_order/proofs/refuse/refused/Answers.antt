use Rattle.std.proofs.Common.{arith}
use Rattle.svr_elab_order.proofs.Firsts.{refused_step}
use Rattle.svr_elab_order.proofs.refuse.refused.Goals as goal

pub loop-order-preserved : goal.loop-order-preserved
loop-order-preserved c =
    refused_step c.args.orders.now c.loop-order.order-index c.order-item.result c.loop-order.fault c.when.result c.earlier-fault.result
    (omega arith) c.order-item.is c.when.ensures c.earlier-fault.ensures c.loop-order.invariant
