use Rattle.std.proofs.Common.{◌≡◌, ◌+◌, ◌-◌, ◌/◌, false, take, arith, rules}
use Rattle.svr_elab_order.specs.Order.{orders_itself}
use Rattle.svr_elab_order.proofs.Firsts.{none_below}
use Rattle.svr_elab_order.proofs.refuse.halved.Goals as goal

pub loop-low-preserved : goal.loop-low-preserved
loop-low-preserved c =
    let e : orders_itself (take (c.loop-low.low + (c.loop-low.high - c.loop-low.low) / 2) c.args.orders.now) ≡ false = first_of (search rules, cc) in
    record {
      from = omega arith;
      apart = omega arith;
      within = c.loop-low.invariant.within;
      cycle = c.loop-low.invariant.cycle;
      none = λ k a b. none_below c.args.orders.now (c.loop-low.low + (c.loop-low.high - c.loop-low.low) / 2) e k b;
    }
