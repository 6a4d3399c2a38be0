use Rattle.std.proofs.Common.{◌≡◌, true, take}
use Rattle.svr_elab_order.specs.Ranks.{agree}
use Rattle.svr_elab_order.proofs.ranks.Ranks.agree.Given as goal

abbrev pub invariant-loop-order : goal.invariant-loop-order
invariant-loop-order l = agree l.self (take l.order-index l.orders) ≡ true
