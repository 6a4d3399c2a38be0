use Rattle.svr_elab_order.proofs.Ranked.{itself_is}
use Rattle.svr_elab_order.proofs.refuse.has_cycle.Goals as goal

pub returns : goal.returns
returns c = itself_is c.in_ok-ranks.ranks c.is_none.result c.args.orders.now c.is_none.ensures c.in_ok-ranks.ensures
