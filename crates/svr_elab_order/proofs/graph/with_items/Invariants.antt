use Rattle.std.proofs.Common.{◌≡◌, ◌++◌, take, map}
use Rattle.svr_elab_order.specs.Graph.{first_of}
use Rattle.svr_elab_order.proofs.graph.with_items.Given as goal

abbrev pub invariant-loop-order : goal.invariant-loop-order
invariant-loop-order l = l.graph ≡ l.initial.graph ++ map first_of (take l.order-index l.orders)
