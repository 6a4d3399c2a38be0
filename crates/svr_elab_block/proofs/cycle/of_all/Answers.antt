use Rattle.std.proofs.Common.{◌≡◌, true, rules}
use Rattle.svr_elab_order.specs.Ranks.{agree}
use Rattle.svr_elab_block.proofs.Agreed.{none_of_all}
use Rattle.svr_elab_block.proofs.cycle.of_all.Goals as goal

pub returns-in_ok-ranks-in-Some-clause-fault : goal.returns-in_ok-ranks-in-Some-clause-fault
returns-in_ok-ranks-in-Some-clause-fault c =
    let h : agree c.in-Some.ranks c.args.orders.now ≡ true = search rules in
    none_of_all c.in-Some.ranks c.args.orders.now c.args.given h
