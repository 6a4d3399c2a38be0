use Rattle.std.proofs.Common.{◌≡◌, drop}
use Rattle.svr_elab_fault.specs.Refusals.{earlier}
use Rattle.svr_elab_order.specs.Cycles.{all_refused}
use Rattle.svr_elab_order.proofs.refuse.refused.Given as goal

abbrev pub invariant-loop-order : goal.invariant-loop-order
invariant-loop-order l = earlier l.fault (all_refused (drop l.order-index l.orders)) ≡ all_refused l.orders
