use Rattle.std.proofs.Common.{◌≡◌, false, rules}
use Rattle.svr_elab_order.specs.Order.{orders_itself}
use Rattle.svr_elab_order.proofs.Firsts.{none_at_all}
use Rattle.svr_elab_order.proofs.refuse.first_cycle.Goals as goal

pub returns-else-branch : goal.returns-else-branch
returns-else-branch c =
    let e : orders_itself c.args.orders.now ≡ false = first_of (cc, search rules) in
    none_at_all c.args.orders.now c.args.given e
