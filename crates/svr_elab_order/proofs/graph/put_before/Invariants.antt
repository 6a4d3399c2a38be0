use Rattle.std.proofs.Common.{◌≡◌, length, take}
use Rattle.svr_elab_order.proofs.Sources.{PutBefore}
use Rattle.svr_elab_order.proofs.graph.put_before.Given as goal

abbrev pub invariant-loop-name : goal.invariant-loop-name
invariant-loop-name l = record {
  length_is : length l.lists.items ≡ length l.initial.lists.items;
  before : PutBefore l.initial.lists.items l.lists.items l.item (take l.name-index l.later);
}
