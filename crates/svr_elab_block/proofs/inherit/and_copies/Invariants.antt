use Rattle.std.proofs.Common.{◌≡◌, ◌++◌, take}
use Rattle.svr_elab_block.proofs.inherit.and_copies.Given as goal

abbrev pub invariant-loop-order : goal.invariant-loop-order
invariant-loop-order l = l.orders.items ≡ l.initial.orders.items ++ take l.order-index l.more
