use Rattle.std.proofs.Common.{◌≤◌, ◌^◌, take}
use Rattle.svr_elab_order.specs.Graph.{AreNames}
use Rattle.svr_elab_order.proofs.order.names_past.Given as goal

abbrev pub invariant-loop-order : goal.invariant-loop-order
invariant-loop-order l = record {
  above : AreNames l.names (take l.order-index l.orders);
  small : l.names ≤ 2 ^ 32;
}
