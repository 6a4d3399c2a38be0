use Rattle.std.proofs.Common.{◌≡◌, ◌<◌, ◌≤◌, ◌-◌, ℕ, true, false, length, take}
use Rattle.svr_elab_order.specs.Order.{orders_itself}
use Rattle.svr_elab_order.proofs.refuse.halved.Given as goal

abbrev pub invariant-loop-low : goal.invariant-loop-low
invariant-loop-low l = record {
  from : l.given ≤ l.low;
  apart : l.low < l.high;
  within : l.high ≤ length l.orders;
  cycle : orders_itself (take l.high l.orders) ≡ true;
  none : (k : ℕ) → l.given < k → k ≤ l.low → orders_itself (take k l.orders) ≡ false;
}

abbrev pub decreases-loop-low : goal.decreases-loop-low
decreases-loop-low l = l.high - l.low
