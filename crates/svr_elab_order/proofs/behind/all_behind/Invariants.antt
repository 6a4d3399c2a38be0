use Rattle.std.proofs.Common.{◌≡◌, true, take}
use Rattle.svr_elab_order.specs.Ranks.{all_behind}
use Rattle.svr_elab_order.proofs.behind.all_behind.Given as goal

abbrev pub invariant-loop-order : goal.invariant-loop-order
invariant-loop-order l = all_behind l.at (take l.order-index l.orders) ≡ true
