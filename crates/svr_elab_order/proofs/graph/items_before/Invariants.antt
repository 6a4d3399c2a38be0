use Rattle.std.proofs.Common.{◌≡◌, ◌+◌, length, take}
use Rattle.svr_elab_order.proofs.Sources.{ItemsBefore}
use Rattle.svr_elab_order.proofs.graph.items_before.Given as goal

abbrev pub invariant-loop-order : goal.invariant-loop-order
invariant-loop-order l = record {
  item : l.item ≡ l.names + l.order-index;
  length_is : length l.lists.items ≡ l.names;
  before : ItemsBefore l.names l.lists.items (take l.order-index l.orders);
}
